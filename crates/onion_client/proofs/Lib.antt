pub mod Sealing
pub mod Layering
pub mod Places
pub mod Peeling
pub mod Paths
pub mod Room
