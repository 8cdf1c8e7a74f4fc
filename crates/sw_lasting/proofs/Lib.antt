mod Freed
mod Held
mod Moving
mod Preparing
