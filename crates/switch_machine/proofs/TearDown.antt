-- tear_down, and what a step that tears one circuit down keeps of what a state stands for.
pub mod Torn
pub mod By
pub mod Kept
pub mod Law
