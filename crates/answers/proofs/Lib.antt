pub mod StatusCases
pub mod Statuses
