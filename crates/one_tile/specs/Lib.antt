pub mod HeldPacks
pub mod TiledCalls
