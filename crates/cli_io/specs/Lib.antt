pub mod Inputs
pub mod Errors
pub mod Written
pub mod Quoting
pub mod Kept
