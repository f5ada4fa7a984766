pub mod Bits
pub mod Facts
pub mod Spelling
pub mod StrideSums
