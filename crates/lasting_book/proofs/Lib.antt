mod Sorting
mod Lines
mod Reaching
mod Ties
mod LastItems
