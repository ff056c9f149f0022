pub mod Laps
pub mod laws
