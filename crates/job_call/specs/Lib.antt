pub mod Answer
pub mod TileText
