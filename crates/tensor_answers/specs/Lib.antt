pub mod Answers
pub mod Asking
pub mod OwnQuestionCases
pub mod OwnQuestions
