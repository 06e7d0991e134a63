pub mod Flushed
pub mod OutputLaws
mod Reaching
mod Taking
pub mod PieceLaws
