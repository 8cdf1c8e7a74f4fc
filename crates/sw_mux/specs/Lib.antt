pub mod Keys
pub mod Waiting
pub mod Outcomes
pub mod Numbered
pub mod Times
