pub mod Again
pub mod OrderCases
pub mod TensorPlaces
pub mod Together
