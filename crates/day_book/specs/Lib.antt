pub mod Most
pub mod Items
pub mod Changes
pub mod Taking
pub mod Kept
