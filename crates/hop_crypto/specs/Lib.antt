pub mod OpenerState
pub mod SealerState
pub mod Ciphers
pub mod Jobs
