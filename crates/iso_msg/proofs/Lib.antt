pub mod Bools
pub mod FieldTable
mod FieldMaps
pub mod FieldLists
mod FieldSearch
pub mod FieldLengths
