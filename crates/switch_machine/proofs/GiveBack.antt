-- give_back.
pub mod Batch
pub mod Home
pub mod Accepts
pub mod Said
pub mod Returned
pub mod Settled
pub mod ForthKept
pub mod Sealed
pub mod BackKept
pub mod Closing
pub mod Refused
pub mod Kept
pub mod Law
