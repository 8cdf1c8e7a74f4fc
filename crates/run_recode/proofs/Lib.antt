mod Flows
mod Queues
mod Reading
mod Writing
