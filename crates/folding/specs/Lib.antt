pub mod Fold
pub mod FoldCases
