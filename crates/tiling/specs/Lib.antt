pub mod Work
pub mod WorkCases
