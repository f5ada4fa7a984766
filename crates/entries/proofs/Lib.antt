pub mod Bounds
pub mod ByLabel
pub mod EntryCases
pub mod Injective
pub mod Reach
pub mod Stride
pub mod StridesApart
