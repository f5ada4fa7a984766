pub mod StoredRun
