-- What a switch is made with; no step changes it.
use Rattle.std.specs.Prelude.{ℕ}
use Rattle.circuit_model.specs.Rules.{Rules}

pub record SwitchStart : Type 0 where
  -- the switch's name, which its claims carry
  pub name : ℕ
  pub rules : Rules
  -- how many circuits may be live
  pub circuits : ℕ
