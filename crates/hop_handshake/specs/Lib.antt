pub mod Payloads
pub mod Answers
pub mod Fast
pub mod Opening
