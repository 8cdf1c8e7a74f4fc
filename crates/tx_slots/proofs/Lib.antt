mod MappedLists
pub mod Undone
pub mod RowCuts
