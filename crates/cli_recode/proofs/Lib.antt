mod Frames
mod Pieces
mod Streams
mod Written
