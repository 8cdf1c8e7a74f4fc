pub mod Rest
pub mod Errors
pub mod Disks
pub mod Found
pub mod Copied
