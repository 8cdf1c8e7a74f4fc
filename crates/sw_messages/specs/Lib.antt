pub mod Requests
pub mod Faults
pub mod Placing
pub mod Responses
pub mod Reversals
pub mod Advices
