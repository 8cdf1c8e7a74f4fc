pub mod Tallies
pub mod Line
pub mod Numbers
