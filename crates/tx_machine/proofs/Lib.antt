mod NameRuns
-- what crates over transactions cite
pub mod StepBounds
pub mod BoundLaws
pub mod ListLaws
pub mod Dues
mod StepsAhead
mod Frames
mod RestPlaces
mod Copies
mod Replies
