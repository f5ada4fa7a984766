pub mod DirectResult
