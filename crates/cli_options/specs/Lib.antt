pub mod CommandLine
pub mod Conversion
pub mod Refusal
pub mod Rows
