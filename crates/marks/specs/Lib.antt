pub mod MarkCases
pub mod Marks
