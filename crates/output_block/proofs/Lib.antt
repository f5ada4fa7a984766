pub mod StoredSums
