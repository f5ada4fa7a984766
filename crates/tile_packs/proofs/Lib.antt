pub mod PaddedBlocks
pub mod PartLanes
pub mod SideBlocks
