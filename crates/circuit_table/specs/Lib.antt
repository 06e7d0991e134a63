pub mod Ports
pub mod Indexing
