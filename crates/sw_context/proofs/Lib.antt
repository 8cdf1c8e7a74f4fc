mod Entries
mod Places
-- what crates that read names from bytes cite
pub mod NameLaws
mod PairLaws
mod SpellingLaws
