pub mod Sizes
mod Pieces
mod Rounds
mod Running
