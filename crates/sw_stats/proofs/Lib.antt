mod Codes
mod Texts
