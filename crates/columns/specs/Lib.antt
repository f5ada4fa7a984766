pub mod ColumnNeeds
pub mod LineStores
pub mod Stored
