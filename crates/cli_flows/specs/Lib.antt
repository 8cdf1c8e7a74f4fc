pub mod Errors
pub mod Subcommands
