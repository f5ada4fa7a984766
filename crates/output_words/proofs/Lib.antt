pub mod CombinedWords
