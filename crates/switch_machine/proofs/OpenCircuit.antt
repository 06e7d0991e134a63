-- open_circuit keeps what a state stands for.
pub mod Past
pub mod Refused
pub mod Accepted
pub mod Kept
