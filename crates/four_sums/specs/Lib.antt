pub mod FourRunSums
