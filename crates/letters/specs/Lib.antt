pub mod LetterCases
pub mod Placed
pub mod PrintedLetters
