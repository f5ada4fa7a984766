pub mod Labels
pub mod LetterSets
pub mod Lettered
pub mod LetteredBy
