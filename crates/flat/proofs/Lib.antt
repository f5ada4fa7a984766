pub mod FlatLayoutCases
pub mod Made
