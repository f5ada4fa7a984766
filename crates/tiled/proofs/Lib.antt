pub mod Agrees
pub mod TileAnswered
pub mod Demand3
pub mod Following
pub mod EmptyTiles
pub mod TilesWithoutC
