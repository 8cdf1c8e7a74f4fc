pub mod World
pub mod Calls
pub mod Kept
pub mod Opening
pub mod Items
pub mod Cuts
pub mod Replies
pub mod Texts
