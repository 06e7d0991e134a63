-- The result and the next state of each call, a file a call. A call that asks the one-thread relay of a
-- circuit is given the events of each circuit, by number.
pub mod ChannelUp
pub mod OpenCircuit
pub mod NextCell
pub mod DialOrder
pub mod DialMemory
pub mod DialDone
-- a circuit behind one more event
pub mod Settling
pub mod TearDown
pub mod Take
pub mod Claim
pub mod GiveBack
pub mod Abandon
