pub mod TensorCases
