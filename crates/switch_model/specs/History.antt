-- What happened: channels; circuits, legs and CircIDs (`at`), and how a leg ends; cells taken (`taken_forth`,
-- `taken_back`); how returned cells settle; what a step tears down; `is_live_circuit`, `sent` and `events`;
-- what a circuit relayed, and what a return adds to it; all that a history says of one circuit.
pub mod Channels
pub mod Legs
pub mod LegEnds
pub mod Taken
pub mod Returns
pub mod Teardowns
pub mod Circuit
pub mod Relayed
pub mod Homecoming
pub mod Past
pub mod EdgePast
