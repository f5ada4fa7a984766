pub mod FourBlocks
