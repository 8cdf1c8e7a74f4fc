pub mod Responses
pub mod Giving
