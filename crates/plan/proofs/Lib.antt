pub mod GroupsFoldable
pub mod GroupSizes
pub mod Reached
pub mod Wrapped
