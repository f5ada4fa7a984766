pub mod JobValues
pub mod AtFront
