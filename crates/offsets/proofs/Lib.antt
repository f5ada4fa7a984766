pub mod Digits
pub mod OffsetCases
pub mod OffsetPlaces
pub mod OwnedWords
pub mod Runs
