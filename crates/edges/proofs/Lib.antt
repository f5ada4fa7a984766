pub mod Example
pub mod JobCases
pub mod LabelKinds
pub mod Pinned
pub mod Starred
