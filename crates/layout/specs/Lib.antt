pub mod Layout
pub mod Listed
