pub mod SetUps
pub mod Refusals
