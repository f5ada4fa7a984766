pub mod AllAsked
pub mod Later
pub mod QuestionCases
pub mod Ready
pub mod QuestionsWithoutC
