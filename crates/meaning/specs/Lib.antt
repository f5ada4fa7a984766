pub mod Demand2
pub mod Index
pub mod Meaning
