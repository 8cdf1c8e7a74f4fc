pub mod Wrote
pub mod Sinks
pub mod Drives
pub mod Feeding
pub mod Went
pub mod Ended
pub mod Early
