-- The relays of circuits whose worked jobs come home.
use Rattle.std.proofs.Common.{◌≡◌, ℕ, ◌<◌, if◌then◌else◌, is_some, List, length, get_or, Option, Some, None, slice_set, refl, sym, ◌∙◌, ap, subst}
use Rattle.std.specs.Prelude.{IsTrue}
use Rattle.tr_io.specs.declared.answers.BackAnswer.{BackAnswer}
use Rattle.switch_machine.specs.State.{slot_at}
use Rattle.switch_model.proofs.Common.{self_eq}
use Rattle.switch_machine.proofs.Slots.{slot_at-with, length-with}
use Rattle.switch_core.specs.Homecoming.{PutsRelay, RelayHome}
use Rattle.switch_core.specs.Opened.{ForgetsDown}
use Rattle.switch_core.specs.declared.relay.Relay.{Relay}
use Rattle.switch_core.proofs.Gone.{slot-get, slot-set}
use Rattle.switch_core.proofs.Settled.{is_inside}

-- the relay at a place of the list
pub relay_slot : (relays : List (Option Relay)) (c : ℕ) (slot : Option Relay) → IsTrue (is_some (slot_at relays c))
    → slot ≡ get_or relays c slot → slot_at relays c ≡ slot
relay_slot relays c slot live at = slot-get relays c slot (is_inside relays c live) ∙ sym at

-- a place that is written
pub puts_set : (relays : List (Option Relay)) (c : ℕ) (slot : Option Relay) (relay : Relay) → c < length relays
    → slot ≡ Some relay → PutsRelay relays (slice_set relays c slot) c relay
puts_set relays c slot relay inside is = record {
  count = ap length (sym (slot-set relays c slot)) ∙ length-with relays c slot;
  put =
      ap (λ l. slot_at l c) (sym (slot-set relays c slot)) ∙ slot_at-with relays c slot c inside
      ∙ ap (λ b. if b then slot else slot_at relays c) (self_eq c) ∙ is;
  others = λ d other.
      ap (λ l. slot_at l d) (sym (slot-set relays c slot)) ∙ slot_at-with relays c slot d inside
      ∙ ap (λ b. if b then slot else slot_at relays d) other;
}

-- and forgotten where the circuit closed
pub home_by : (answer : BackAnswer) (old mid new : List (Option Relay)) (c : ℕ) (relay : Relay) → PutsRelay old mid c relay
    → ForgetsDown answer mid new c → RelayHome answer old new c relay
home_by BackAnswer.Settled old mid new c relay puts forgets = subst (λ l. PutsRelay old l c relay) (sym forgets) puts
home_by (BackAnswer.Down reason) old mid new c relay puts forgets = record {
  count = forgets.count ∙ puts.count;
  gone = forgets.gone;
  others = λ d other. forgets.others d other ∙ puts.others d other;
}
home_by BackAnswer.Gone old mid new c relay puts forgets = tt
home_by (BackAnswer.Stranger why) old mid new c relay puts forgets = tt

-- a live circuit's relay
pub record IsThere (slot : Option Relay) : Type 0 where
  pub relay : Relay
  pub there : slot ≡ Some relay

there_by : (slot : Option Relay) → IsTrue (is_some slot) → IsThere slot
there_by None live = absurd cc
there_by (Some relay) live = record { relay = relay; there = refl }

pub is_there : (relays : List (Option Relay)) (c : ℕ) → IsTrue (is_some (slot_at relays c)) → IsThere (slot_at relays c)
is_there relays c live = there_by (slot_at relays c) live
