pub mod Holding
pub mod Living
pub mod Stepping
