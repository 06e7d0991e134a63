pub mod Writing
pub mod RoundMade
