pub mod Fronts
pub mod Lists
pub mod Loops
pub mod Stepped
pub mod Sums
pub mod Words
pub mod Texts
