pub mod PlainCall
pub mod PlainDemand
pub mod PlainWithoutC
