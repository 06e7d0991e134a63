mod Ahead
mod Opening
mod Sealing
pub mod Working
