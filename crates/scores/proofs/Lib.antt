pub mod BestLag
pub mod DelayAnswered
pub mod DelayCases
pub mod DelaySound
