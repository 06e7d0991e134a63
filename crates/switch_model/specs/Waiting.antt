-- What waits: `queue` and `held_count`; `lane`; `is_ready`, `claim_out` and `born_bodies`, and what a claim's job holds;
-- `orders` and `bound`; `dials` and `dials_out`; `tick`, `cell_count` and `pick`; `owed_cells` and `IsAtRest`.
pub mod Queues
pub mod Lanes
pub mod Claims
pub mod Contents
pub mod Orders
pub mod Dials
pub mod Counts
pub mod Rest
