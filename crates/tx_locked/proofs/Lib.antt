pub mod Calls
mod Linking
mod Growth
pub mod Stations
mod EmptyQueues
pub mod Finishing
