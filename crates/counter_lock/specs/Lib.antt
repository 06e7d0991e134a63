pub mod Counting
pub mod Threads
