mod ReadNumbers
pub mod Unrefused
pub mod Options
pub mod Lists
