pub mod PackedCases
pub mod Packing
pub mod Zeros
