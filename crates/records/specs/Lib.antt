pub mod RecordCases
pub mod RecordParts
pub mod Records
