pub mod Requests
pub mod Arrivals
