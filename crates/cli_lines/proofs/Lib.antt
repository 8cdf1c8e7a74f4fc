pub mod FirstLines
mod NextLines
