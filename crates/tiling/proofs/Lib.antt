pub mod PackedWork
pub mod WorkCases
mod TilesRun
