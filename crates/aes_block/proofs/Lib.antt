pub mod Expansion
pub mod LookUps
pub mod Words
