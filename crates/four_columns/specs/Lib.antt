pub mod FourSums
