pub mod ListedTensors
pub mod QuestionCases
pub mod Questions
pub mod QuestionsWithoutC
