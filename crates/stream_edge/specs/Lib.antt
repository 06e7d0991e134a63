pub mod Streams
pub mod PlacesState
