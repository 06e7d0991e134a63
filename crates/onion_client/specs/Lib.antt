pub mod Calls
pub mod LayerState
pub mod PathState
pub mod Making
pub mod Asked
pub mod Taking
pub mod Words
pub mod Hops
