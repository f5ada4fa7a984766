pub mod StretchLanes
