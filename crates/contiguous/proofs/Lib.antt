pub mod WithoutFactors
