pub mod FieldLengths
mod KeyParts
mod Hearing
mod Staying
mod LongestPrefix
