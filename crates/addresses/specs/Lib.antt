pub mod RunningAddresses
