mod Answering
mod Doing
mod Drawing
mod Showing
mod Openings
mod Serving
mod Stepping
mod Profiled
