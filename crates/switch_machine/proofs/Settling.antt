-- A circuit behind one more event, against the one-thread relay.
pub mod Core
pub mod Orders
pub mod Dials
