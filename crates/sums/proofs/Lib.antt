pub mod GroupRuns
