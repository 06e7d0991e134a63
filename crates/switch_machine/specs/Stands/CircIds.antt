-- CircIDs: which leg has which.
use Rattle.std.specs.Prelude.{ℕ, ◌≡◌, ◌⊎◌, ⊤, ◌==◌, List, true, Option, Some, None}
use Rattle.std.specs.List.{list_any}
use Rattle.switch_model.specs.Names.{Leg}
use Rattle.switch_model.specs.Waiting.Lanes.{Destroy}
use Rattle.switch_machine.specs.State.{LegState}
use Rattle.switch_machine.specs.Machine.{has_port}

-- A CircID that some leg has is that of a leg of a live circuit, or its DESTROY waits.
abbrev pub IsUsed : (Leg → Option LegState) → List Destroy → ℕ → ℕ → Option Leg → Type 0
IsUsed legs lane chan id None = ⊤
IsUsed legs lane chan id (Some leg) = (has_port chan id (legs leg) ≡ true) ⊎ (list_any (λ d. d.id == id) lane ≡ true)

pub record CircIdsStand (legs : Leg → Option LegState) (lanes : ℕ → List Destroy) (at_id : ℕ → ℕ → Option Leg) : Type 0 where
  pub used : (chan id : ℕ) → IsUsed legs (lanes chan) chan id (at_id chan id)
