pub mod Puts
pub mod Scripted
