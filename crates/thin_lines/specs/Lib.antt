pub mod Crossed
pub mod ThinLines
