pub mod Planned
pub mod PlannedTiles
pub mod ContractionInTiles
pub mod Side
pub mod TilePlaces
