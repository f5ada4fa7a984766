pub mod JobFileCases
pub mod Standing
