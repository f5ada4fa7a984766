pub mod Cut
pub mod Grid
pub mod Progress
pub mod Setting
pub mod TileCases
pub mod TileWalk
