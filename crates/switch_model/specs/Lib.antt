-- Read in this order. A history is a list of steps, newest first: what follows a step came before it.

-- numbers and names: limits and reasons, legs and directions, what a switch is made with
pub mod Limits
pub mod Names
pub mod Start
-- what happened, what waits, the conditions of each call and its right answer, and legal histories
pub mod History
pub mod Waiting
pub mod Conditions
pub mod Answers
pub mod Legal
pub mod Examples
