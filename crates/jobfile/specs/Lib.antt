pub mod Format
pub mod JobFileCases
pub mod JobParts
