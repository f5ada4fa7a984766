pub mod LetterCases
pub mod LetterLoops
