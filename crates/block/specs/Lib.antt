pub mod Block
pub mod BlockCases
pub mod Places
pub mod StretchCases
pub mod Stretches
