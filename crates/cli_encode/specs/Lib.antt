pub mod Texts
pub mod Lines
pub mod Headers
pub mod Reading
pub mod Frames
pub mod Refusals
pub mod Errors
pub mod Laws
