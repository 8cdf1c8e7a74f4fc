pub mod DueCalls
pub mod Slots
pub mod Rows
