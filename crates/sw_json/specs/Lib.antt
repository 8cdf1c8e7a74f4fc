pub mod Contexts
pub mod Json
