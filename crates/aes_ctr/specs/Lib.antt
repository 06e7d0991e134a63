pub mod StreamState
