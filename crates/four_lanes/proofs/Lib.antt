pub mod ByRun
pub mod LaneShared
