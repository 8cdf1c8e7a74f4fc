mod Causes
mod HexDigits
pub mod Continued
pub mod Heads
mod LineEnds
mod Meant
mod Spelled
mod Texts
