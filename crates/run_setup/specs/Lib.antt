pub mod Errors
pub mod Links
pub mod Plans
pub mod Profiles
pub mod Words
pub mod Reaches
