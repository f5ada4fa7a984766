pub mod ThinSteps
