-- take: its answer is the definition's, and it keeps what a state stands for.
-- the answer
pub mod FoundLeg
pub mod CellCounts
pub mod Said
-- the state behind it
pub mod Frees
pub mod Frames
pub mod PassedOver
pub mod QueuedForth
pub mod LostLeg
pub mod Quiet
pub mod Draining
pub mod QueuedBack
pub mod BackKept
pub mod Down
pub mod ByLeg
pub mod Kept
pub mod Law
