pub mod Parts
pub mod Ways
pub mod Flows
