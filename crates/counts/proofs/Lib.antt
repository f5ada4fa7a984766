pub mod CountWords
