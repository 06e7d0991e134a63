-- Decaying counts of cells.
use Rattle.std.specs.Prelude.{ℕ, ◌≡◌, ⊤, ◌-◌, ◌≤◌, Option, Some, None}
use Rattle.switch_model.specs.Names.{Leg}
use Rattle.switch_model.specs.Waiting.Counts.{halved}
use Rattle.switch_machine.specs.State.{LegState}

-- The count in the history is the one kept, halved by each tick since.
pub record CountStands (leg : LegState) (n now : ℕ) : Type 0 where
  pub since : leg.counted_at ≤ now
  pub count : n ≡ halved leg.count (now - leg.counted_at)

abbrev pub CountAt : Option LegState → ℕ → ℕ → Type 0
CountAt None n now = ⊤
CountAt (Some leg) n now = CountStands leg n now

pub record CountsStand (legs : Leg → Option LegState) (count : ℕ → ℕ → ℕ) (now circuit_count : ℕ) : Type 0 where
  pub counts : (leg : Leg) → CountAt (legs leg) (count leg.circ leg.number) now
  pub no_count : (c k : ℕ) → circuit_count ≤ c → count c k ≡ 0
