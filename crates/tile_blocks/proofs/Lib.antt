pub mod TileParts
