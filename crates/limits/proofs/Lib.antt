pub mod LimitCases
