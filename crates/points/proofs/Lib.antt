pub mod LabelCases
pub mod SameLetters
