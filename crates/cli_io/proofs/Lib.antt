mod KnownBytes
pub mod Writing
mod Quotations
pub mod Positions
