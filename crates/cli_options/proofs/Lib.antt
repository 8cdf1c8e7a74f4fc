mod Found
mod Rows
