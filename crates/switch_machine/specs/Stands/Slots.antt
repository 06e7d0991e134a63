-- Slots that are bound to places, and halts.
use Rattle.std.specs.Prelude.{ℕ, ◌≡◌, ◌==◌, nat_le, List, find, Bool, false, Option, Some, None, option_map}
use Rattle.tr_io.specs.declared.names.StreamKey.{StreamKey}
use Rattle.switch_machine.specs.State.{SlotState}

-- A slot that is bound to the stream with this key.
abbrev pub slot_state : ℕ → StreamKey → SlotState
slot_state slot key = record { slot = slot; circ = key.circ.0; serial = key.serial }

-- Whether a number, if there is one, is at most n.
abbrev pub at_most : ℕ → Option ℕ → Bool
at_most n (Some m) = nat_le m n
at_most n None = false

pub record SlotsStand
    (bound_slots : List SlotState) (halts_made : ℕ) (least : Option ℕ)
    (bound_to : ℕ → Option StreamKey) (halt_steps : ℕ) (has_halt : ℕ → Bool) : Type 0 where
  pub slots : (slot : ℕ) → find (λ b. b.slot == slot) bound_slots ≡ option_map (slot_state slot) (bound_to slot)
  pub halts : halts_made ≡ halt_steps
  pub least_halt : (n : ℕ) → at_most n least ≡ has_halt n
