pub mod TilePacks
