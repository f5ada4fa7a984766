pub mod GatheredBy
pub mod Operands
pub mod OrderCases
pub mod TensorAxes
pub mod TensorPlaces
