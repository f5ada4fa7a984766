pub mod Carrying
pub mod RunsSoFar
