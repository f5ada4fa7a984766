pub mod HeldBlocks
pub mod TilePhases
