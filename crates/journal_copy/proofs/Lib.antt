mod Resting
mod Founding
mod Copying
