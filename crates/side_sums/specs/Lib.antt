pub mod SideSums
