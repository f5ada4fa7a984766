pub mod ExactScores
pub mod Scoring
