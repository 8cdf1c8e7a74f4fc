pub mod Ended
pub mod Among
pub mod Giving
pub mod Gave
