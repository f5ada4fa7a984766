pub mod Carried
pub mod CarriedCases
pub mod NextCount
