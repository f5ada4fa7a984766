pub mod FourDepth
