pub mod Cuts
pub mod Frames
pub mod Leads
