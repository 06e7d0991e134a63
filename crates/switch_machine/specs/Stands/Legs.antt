-- Legs of live circuits: on which channels they lie.
use Rattle.std.specs.Prelude.{◌≡◌, ⊤, is_some, List, true, Option, Some, None}
use Rattle.switch_model.specs.Names.{Leg}
use Rattle.switch_machine.specs.State.{ChannelState, LegState, slot_at}

-- A leg that has its CircID lies on a live channel.
abbrev pub LiesOn : List (Option ChannelState) → Option LegState → Type 0
LiesOn slots None = ⊤
LiesOn slots (Some leg) = is_some (slot_at slots leg.chan) ≡ true

pub record LegsStand (slots : List (Option ChannelState)) (legs : Leg → Option LegState) : Type 0 where
  pub lie : (leg : Leg) → LiesOn slots (legs leg)
