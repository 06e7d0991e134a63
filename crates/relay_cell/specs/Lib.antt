pub mod Begin
pub mod Extend
pub mod Head
pub mod Specifier
