pub mod Logs
pub mod Readers
pub mod PlaceLists
pub mod Payloads
