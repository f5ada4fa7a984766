pub mod FourRuns
