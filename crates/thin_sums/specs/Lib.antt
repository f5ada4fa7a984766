pub mod LineSums
pub mod Sides
