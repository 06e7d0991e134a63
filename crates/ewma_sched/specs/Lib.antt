pub mod Counts
pub mod Tables
pub mod Legs
pub mod Order
