-- claim: its answer is the definition's, and it keeps what a state stands for.
-- the answer
pub mod BodyNumbers
pub mod FirstBody
pub mod Said
-- the state behind it
pub mod Kept
pub mod Law
