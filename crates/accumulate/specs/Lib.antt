pub mod Added
pub mod Changes
