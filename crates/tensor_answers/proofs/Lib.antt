pub mod Joined
pub mod OwnPassed
pub mod OwnQuestionCases
pub mod Refusal
pub mod Sooner
