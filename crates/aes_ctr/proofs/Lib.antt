pub mod Blocks
pub mod Pads
pub mod Stores
