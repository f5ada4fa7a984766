pub mod GroupSums
pub mod SideTurns
