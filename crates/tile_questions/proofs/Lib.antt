pub mod TileQuestionCases
pub mod TileSizes
