pub mod TileCall
pub mod Demand3
pub mod EmptyTiles
pub mod TilesWithoutC
