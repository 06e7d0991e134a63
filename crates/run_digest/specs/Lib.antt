pub mod HashState
pub mod Hasher
pub mod Stage
pub mod Variables
pub mod Words
