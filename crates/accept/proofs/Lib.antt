pub mod AcceptQuestions
pub mod Accepted
pub mod Reaches
pub mod Soundness
