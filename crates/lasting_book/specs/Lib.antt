pub mod Shown
pub mod Tied
pub mod Files
