pub mod Bounds
pub mod EntryCases
pub mod EntryQuestions
