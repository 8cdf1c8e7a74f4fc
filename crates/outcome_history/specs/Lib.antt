pub mod Looked
pub mod Sessions
pub mod Calls
