mod Boxes
mod Echoes
mod Framing
mod Sending
mod States
pub mod Writing
