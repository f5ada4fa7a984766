pub mod ThinTile
