pub mod Issuing
pub mod Delivery
pub mod Sending
