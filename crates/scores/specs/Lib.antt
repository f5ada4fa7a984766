pub mod DelayCall
pub mod DelayCases
pub mod DelayQuestions
pub mod GreatestScore
pub mod Score
