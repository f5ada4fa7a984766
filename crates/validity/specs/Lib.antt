pub mod Checked
pub mod Letters
pub mod TensorCases
pub mod TensorQuestions
