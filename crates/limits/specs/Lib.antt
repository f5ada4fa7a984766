pub mod LimitCases
pub mod Limits
