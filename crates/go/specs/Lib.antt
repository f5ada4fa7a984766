pub mod GoCases
pub mod GoParts
pub mod Record
