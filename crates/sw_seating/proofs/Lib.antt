-- what crates over flows cite
pub mod Numbered
mod Seats
