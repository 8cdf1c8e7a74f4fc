pub mod Drives
pub mod DueCalls
pub mod SeatSets
pub mod QuietTurns
pub mod FreeSessions
mod SessionsStand
mod SessionItems
mod DueStands
mod Reseating
pub mod SeatedCuts
mod SeatedEntries
pub mod SeatedSteps
pub mod SeatedStops
mod SeatedTakes
pub mod SeatedTurns
mod StepRefusals
mod Recoveries
mod Reopening
