pub mod LaneProducts
