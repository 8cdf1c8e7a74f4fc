pub mod Line
pub mod Moments
