pub mod FoldCases
pub mod FoldKeeps
pub mod Folding
pub mod LabelAdded
