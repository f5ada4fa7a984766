pub mod LongFiles
pub mod Running
