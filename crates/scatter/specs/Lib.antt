pub mod ScatterVectors
