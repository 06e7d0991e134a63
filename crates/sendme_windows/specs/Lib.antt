pub mod WindowsState
pub mod Counts
pub mod Answers
