mod Keeping
mod Drove
mod Writing
mod Ends
mod Concluding
mod Starts
mod Handed
mod Sinking
