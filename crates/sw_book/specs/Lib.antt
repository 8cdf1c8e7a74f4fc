pub mod Most
pub mod Items
pub mod Kept
