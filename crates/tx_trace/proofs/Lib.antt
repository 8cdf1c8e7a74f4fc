pub mod Tables
pub mod Earlier
mod Given
mod Shelved
mod Begun
mod Tracked
mod Firsts
mod Answered
