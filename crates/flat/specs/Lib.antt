pub mod FlatLayout
pub mod FlatLayoutCases
