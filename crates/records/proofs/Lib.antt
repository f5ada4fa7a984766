pub mod Marked
pub mod Reading
pub mod RecordCases
