-- dial_order is one step.
pub mod Numbered
pub mod Open
pub mod Oldest
pub mod Over
pub mod Said
pub mod Right
pub mod HandedOut
pub mod Kept
pub mod Law
pub mod Each
