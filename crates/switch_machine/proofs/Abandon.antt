-- abandon.
pub mod Said
pub mod Kept
pub mod Law
