-- The open dial orders of a state are those of the history that it stands for.
use Rattle.std.proofs.Common.{◌≡◌, ℕ, ◌&&◌, Bool, true, false, if◌then◌else◌, List, Option, Some, None, option_map, refl, sym, ◌∙◌, ap}
use Rattle.std.specs.List.{filter}
use Rattle.circuit_model.specs.NextHop.{next_hop}
use Rattle.circuit_model.specs.Rules.{Rules}
use Rattle.tr_io.specs.declared.step.Step.{Step}
use Rattle.switch_model.specs.Start.{SwitchStart}
use Rattle.switch_model.specs.Answers.EdgeOut.{Ordered}
use Rattle.switch_model.specs.History.Circuit.{is_live_circuit}
use Rattle.switch_model.specs.History.EdgePast.{edge_past}
use Rattle.switch_model.specs.History.Legs.{holds_id}
use Rattle.switch_model.specs.History.Past.{past}
use Rattle.switch_model.specs.Waiting.Dials.{Dial, dials_made, is_dialling, is_from, is_last, is_open, was_handed_out}
use Rattle.switch_model.specs.Waiting.Queues.{circuit_log}
use Rattle.switch_machine.specs.Machine.{dial_at, dial_in}
use Rattle.switch_machine.specs.Stands.{Stands}
use Rattle.switch_machine.specs.Stands.OneCircuit.{last_of, CircuitAt}
use Rattle.switch_machine.specs.State.{CircuitState, DialState, State, slot_at}
use Rattle.switch_model.proofs.Common.{and-first, and-second}
use Rattle.switch_machine.proofs.Again.{IsIn, last-of-circuit, made-numbered}
use Rattle.switch_machine.proofs.DialOrder.Numbered.{last-of}

-- An order of a history as the state has it, where the orders with some numbers were handed out.
abbrev pub state_of : (ℕ → Bool) → Dial → DialState
state_of handed_out dial = record { order = dial.order; to = dial.to; handed_out = handed_out dial.order }

open-at : (rules : Rules) (closes : List Ordered) (h : List Step) (c : ℕ) (x : Option CircuitState) (dial : Dial) →
    CircuitAt rules closes x c (past rules h c) (λ k. holds_id h c k) (edge_past rules h c) →
    is_live_circuit rules h c ≡ true → is_dialling (next_hop (circuit_log rules h c)) ≡ true →
    last_of (filter (is_from c) (dials_made rules h)) ≡ Some dial →
    dial_at x ≡ Some (state_of (was_handed_out h) dial)
open-at rules closes h c None dial gone alive dials last = let both : false ≡ true = sym gone.live ∙ alive in absurd cc
open-at rules closes h c (Some x) dial own alive dials last = rw (own.dial, dials, last) refl

-- an order that is open by the history is the open order of its circuit
pub open-in : (start : SwitchStart) (s : State) (h : List Step) (dial : Dial) → Stands start s h →
    IsIn dial (dials_made start.rules h) → is_open start.rules h dial ≡ true →
    dial_in s dial.circ ≡ Some (state_of (was_handed_out h) dial)
open-in start s h dial st inside open_is =
    let made = dials_made start.rules h in
    let hop_last : (is_dialling (next_hop (circuit_log start.rules h dial.circ)) && is_last made dial) ≡ true = and-second
    (is_live_circuit start.rules h dial.circ) _ open_is in
    open-at start.rules s.last_closes h dial.circ (slot_at s.circuits dial.circ) dial (st.circuits.circuit dial.circ)
    (and-first _ _ open_is) (and-first _ _ hop_last)
    (last-of-circuit 0 made dial (made-numbered start.rules h) inside (and-second _ _ hop_last))

-- and the other way round
pub record IsOpenOf (rules : Rules) (h : List Step) (c : ℕ) (x : DialState) : Type 0 where
  pub made : Dial
  pub inside : IsIn made (dials_made rules h)
  pub circ : made.circ ≡ c
  pub is_open : is_open rules h made ≡ true
  pub last : last_of (filter (is_from c) (dials_made rules h)) ≡ Some made
  pub is : x ≡ state_of (was_handed_out h) made

opened-by : (f : Dial → DialState) (b : Bool) (o : Option Dial) (x : DialState) →
    (if b then option_map f o else None) ≡ Some x → (dial : Dial) × ((b ≡ true) × ((o ≡ Some dial) × (x ≡ f dial)))
opened-by f true (Some dial) x same = let is : x ≡ f dial = cc in (dial, (refl, (refl, is)))
opened-by f true None x same = absurd cc
opened-by f false o x same = absurd cc

all-three : (a b d : Bool) → a ≡ true → b ≡ true → d ≡ true → (a && (b && d)) ≡ true
all-three a b d first second third = rw (first, second, third) refl

is-open : (rules : Rules) (h : List Step) (c : ℕ) (d : Dial) → d.circ ≡ c → is_live_circuit rules h c ≡ true →
    is_dialling (next_hop (circuit_log rules h c)) ≡ true → is_last (dials_made rules h) d ≡ true → is_open rules h d ≡ true
is-open rules h c d here alive dials last =
    all-three (is_live_circuit rules h d.circ) (is_dialling (next_hop (circuit_log rules h d.circ)))
    (is_last (dials_made rules h) d)
    (ap (is_live_circuit rules h) here ∙ alive) (ap (λ (n : ℕ). is_dialling (next_hop (circuit_log rules h n))) here ∙ dials)
    last

open-of : (rules : Rules) (closes : List Ordered) (h : List Step) (c : ℕ) (x : Option CircuitState) (y : DialState) →
    CircuitAt rules closes x c (past rules h c) (λ k. holds_id h c k) (edge_past rules h c) →
    dial_at x ≡ Some y → IsOpenOf rules h c y
open-of rules closes h c None y gone has = absurd cc
open-of rules closes h c (Some x) y own has =
    let made = dials_made rules h in
    let it = opened-by (state_of (was_handed_out h)) (is_dialling (next_hop (circuit_log rules h c)))
    (last_of (filter (is_from c) made)) y (sym own.dial ∙ has) in
    let last = last-of 0 c made it.0 (made-numbered rules h) it.1.1.0 in
    record {
      made = it.0;
      inside = last.inside;
      circ = last.circ;
      is_open = is-open rules h c it.0 last.circ own.live it.1.0 last.last;
      last = it.1.1.0;
      is = it.1.1.1;
    }

pub in-open : (start : SwitchStart) (s : State) (h : List Step) (c : ℕ) (y : DialState) → Stands start s h → dial_in s c ≡ Some y
    →
    IsOpenOf start.rules h c y
in-open start s h c y st has = open-of start.rules s.last_closes h c (slot_at s.circuits c) y (st.circuits.circuit c) has
