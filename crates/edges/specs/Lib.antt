pub mod Edges
pub mod JobCases
pub mod LabelKinds
pub mod Pinned
