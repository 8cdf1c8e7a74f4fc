pub mod Keeps
mod Offers
mod Breaks
mod Takes
mod Dues
mod LetGo
mod Acks
mod FilledMaps
mod Closings
pub mod Turns
pub mod Gives
pub mod Opens
mod Restores
mod Unknown
mod Cuts
mod Unfinished
mod Held
mod SavedContexts
