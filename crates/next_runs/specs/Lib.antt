pub mod NextRuns
