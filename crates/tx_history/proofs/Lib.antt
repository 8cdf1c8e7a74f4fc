pub mod RisingKeys
mod ViewTests
pub mod OwnItems
pub mod GivenItems
pub mod Changes
pub mod Sessions
pub mod Rows
pub mod SoundJournals
pub mod Lookups
pub mod AdvicePlaces
pub mod RowCounts
pub mod NextStarts
pub mod RecoveryOrder
pub mod CheckedFlows
pub mod SessionStates
pub mod RecoveredSessions
pub mod MapKeys
mod Examples
pub mod EntryCounts
