pub mod PlainAnswered
pub mod PlainDemand
pub mod PlainWithoutC
