pub mod Answered
pub mod Ends
pub mod Outcomes
pub mod Spelled
