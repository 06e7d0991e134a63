pub mod Sums
pub mod Laws
pub mod Views
pub mod Keeps
pub mod Turns
