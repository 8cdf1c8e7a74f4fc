pub mod AssemblyListing
pub mod Stages
pub mod StepPlaces
pub mod StepOrder
pub mod StepCounts
pub mod EntryKinds
pub mod CallSearch
pub mod NumberMap
mod GroupNames
