pub mod Notes
pub mod Ends
pub mod Berths
