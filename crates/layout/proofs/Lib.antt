pub mod Address
pub mod Listed
