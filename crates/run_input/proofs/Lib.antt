pub mod Readings
mod Comings
pub mod Hearings
