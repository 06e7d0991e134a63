-- next_cell keeps what a state stands for.
pub mod Said
pub mod Destroy
pub mod Leg
pub mod Sent
pub mod Kept
