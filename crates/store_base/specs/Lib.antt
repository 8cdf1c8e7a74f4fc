pub mod Tables
pub mod Making
pub mod Rest
pub mod Columns
