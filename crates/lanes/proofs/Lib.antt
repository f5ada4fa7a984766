pub mod LaneTurns
