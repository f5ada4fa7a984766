pub mod PackNeeds
pub mod Packed
pub mod PackedCases
