pub mod LabelCases
pub mod LabelQuestions
