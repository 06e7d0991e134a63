-- The kinds of records, a file a kind.
pub mod Back
pub mod ChannelUp
pub mod OpenCircuit
pub mod NextCell
pub mod Take
pub mod Claim
pub mod Return
pub mod DialOrder
pub mod TearDown
