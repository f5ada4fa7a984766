pub mod GroupCases
pub mod LabelLists
pub mod Points
pub mod Sets
