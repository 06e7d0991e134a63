pub mod Lines
pub mod Waiting
pub mod Destroys
pub mod Forms
