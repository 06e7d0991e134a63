-- the state, and what is asked of it
pub mod State
pub mod Machine
-- the result and the next state of each call
pub mod Calls
-- when a state stands for a history, and what a call adds to it
pub mod Stands
pub mod Adds
