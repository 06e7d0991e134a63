-- The right answer of each call, a file a call.
pub mod ChannelUp
pub mod ChannelDown
pub mod OpenCircuit
pub mod Take
pub mod Claim
pub mod GiveBack
pub mod Abandon
pub mod NextCell
pub mod DialOrder
pub mod DialDone
pub mod EdgeIn
pub mod EdgeOut
pub mod Drained
pub mod TearDown
pub mod Live
pub mod Halted
