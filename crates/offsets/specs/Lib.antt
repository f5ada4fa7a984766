pub mod Counts
pub mod FirstLabel
pub mod OffsetCases
pub mod Offsets
