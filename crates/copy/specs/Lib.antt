pub mod Copied
pub mod CopyNeeds
