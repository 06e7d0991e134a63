-- Legs lie on live channels.
use Rattle.std.proofs.Common.{◌≡◌, ℕ, ◌==◌, ◌<◌, Bool, true, false, if◌then◌else◌, is_some, List, [], ◌∷◌, ◌++◌, length, Option, Some, None, refl}
use Rattle.circuit_model.specs.Events.{CircuitCell}
use Rattle.switch_machine.specs.State.{ChannelState, LegState, slot_at, with_slot}
use Rattle.switch_machine.specs.Calls.NextCell.{sent_first}
use Rattle.switch_machine.specs.Stands.Legs.{LiesOn}
use Rattle.switch_machine.proofs.Slots.{slot_at-push, slot_at-with}

some-if : (b : Bool) (x y : Option ChannelState) → is_some x ≡ true → is_some y ≡ true → is_some (if b then x else y) ≡ true
some-if true x y here there = here
some-if false x y here there = there

pub lies-push : (slots : List (Option ChannelState)) (x : Option ChannelState) (leg : Option LegState) → is_some x ≡ true
    → LiesOn slots leg → LiesOn (slots ++ x ∷ []) leg
lies-push slots x None live lies = tt
lies-push slots x (Some leg) live lies = rw (slot_at-push slots x leg.chan) (some-if _ x (slot_at slots leg.chan) live lies)

pub lies-with : (slots : List (Option ChannelState)) (n : ℕ) (x : ChannelState) (leg : Option LegState) → n < length slots
    → LiesOn slots leg → LiesOn (with_slot slots n (Some x)) leg
lies-with slots n x None inside lies = tt
lies-with slots n x (Some leg) inside lies =
    rw (slot_at-with slots n (Some x) leg.chan inside) (some-if _ (Some x) (slot_at slots leg.chan) refl lies)

-- a leg whose first cell left
pub lies-first : (slots : List (Option ChannelState)) (now : ℕ) (leg : LegState) (cell : CircuitCell) (cells : List CircuitCell)
    (b : Bool) → (cell.command == 4) ≡ b → LiesOn slots (Some leg) → LiesOn slots (sent_first now leg (cell ∷ cells))
lies-first slots now leg cell cells true is_destroy lies = rw is_destroy tt
lies-first slots now leg cell cells false is_destroy lies = rw is_destroy lies
