pub mod Congruent
pub mod ExactScores
pub mod ScoringAccepted
