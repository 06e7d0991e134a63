-- dial_done: its answer is the definition's, and it keeps what a state stands for.
-- the answer
pub mod Said
-- the state behind it, where there is no next hop
pub mod Unlinked
-- where a next hop was linked
pub mod NewLeg
pub mod Linked
pub mod Over
pub mod Kept
pub mod Law
