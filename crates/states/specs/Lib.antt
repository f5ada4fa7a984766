pub mod StateLetters
