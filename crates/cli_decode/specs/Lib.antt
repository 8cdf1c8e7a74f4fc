pub mod Masks
pub mod Decoded
pub mod Progress
pub mod Steps
pub mod Printing
