pub mod Foldable
pub mod GroupCases
pub mod Groups
pub mod Held
pub mod Sets
