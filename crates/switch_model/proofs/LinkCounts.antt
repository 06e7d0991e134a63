-- A circuit's log has as many links as next hops were linked to the circuit.
use Rattle.std.proofs.Common.{◌≡◌, ℕ, ◌+◌, ◌==◌, ◌&&◌, Bool, true, false, if◌then◌else◌, is_some, List, [], ◌∷◌, Some, None, refl, ap}
use Rattle.circuit_model.specs.Events.{CircuitCell, Event}
use Rattle.circuit_model.specs.declared.event.Event.TheVariants.{Backward, Answered, Linked, Failed, Freed, Drained as DrainedEvent}
use Rattle.circuit_model.specs.NextHop.{is_linked, leg_count}
use Rattle.circuit_model.specs.Rules.{Rules}
use Rattle.circuit_model.specs.Words.{log, closes}
use Rattle.tr_io.specs.declared.answers.DialAnswer.{DialAnswer}
use Rattle.tr_io.specs.declared.answers.EdgeAnswer.TheVariants.{Packed, Counted}
use Rattle.tr_io.specs.declared.answers.OpenAnswer.TheVariants.{Opened}
use Rattle.tr_io.specs.declared.answers.TakeAnswer.{TakeAnswer}
use Rattle.tr_io.specs.declared.step.EventStep.{EventStep}
use Rattle.tr_io.specs.declared.step.OrderStep.{OrderStep}
use Rattle.tr_io.specs.declared.step.Step.{Step}
use Rattle.tr_io.specs.declared.step.Step.TheVariants.{OpenCircuit, Take, GiveBack, EdgeIn, EdgeOut, Drained, DialDone}
use Rattle.switch_model.specs.Names.{circuit_cell}
use Rattle.switch_model.specs.History.Legs.{hops, at}
use Rattle.switch_model.specs.History.Taken.{is_hop_leg, claimed_cells}
use Rattle.switch_model.specs.History.Circuit.{is_live_circuit, events, with_event, taken_from_hop, is_awaited, returns_forth}
use Rattle.circuit_model.specs.Batches.{forward_of}
use Rattle.switch_model.specs.History.Returns.{Closing, Goes, Closes, Full, closing_at, settled, settled_with}
use Rattle.switch_model.specs.Waiting.Queues.{circuit_log}

abbrev Counts : Rules → List Event → ℕ → Type 0
Counts rules ev n = leg_count (log rules ev) ≡ n

count-if : (rules : Rules) (b : Bool) (x y : List Event) (n : ℕ) → Counts rules x n → Counts rules y n
    → Counts rules (if b then x else y) n
count-if rules true x y n one other = one
count-if rules false x y n one other = other

count-with : (rules : Rules) (b : Bool) (e : Event) (ev : List Event) (n : ℕ) → is_linked e ≡ false → Counts rules ev n
    → Counts rules (with_event b e ev) n
count-with rules true e ev n other is = rw other is
count-with rules false e ev n other is = is

count-link : (rules : Rules) (b : Bool) (ev : List Event) (n : ℕ) → Counts rules ev n
    → Counts rules (with_event b Linked ev) (if b then n + 1 else n)
count-link rules true ev n is = ap (λ m. m + 1) is
count-link rules false ev n is = is

count-closing : (rules : Rules) (closing : Closing) (e : Event) (ev more : List Event) (n : ℕ) → Counts rules (e ∷ ev) n
    → Counts rules ev n → Counts rules more n → Counts rules (settled_with closing e ev more) n
count-closing rules Goes e ev more n one none all = all
count-closing rules (Closes reason) e ev more n one none all = one
count-closing rules Full e ev more n one none all = none

count-settled : (rules : Rules) (left : ℕ) (ev : List Event) (cells : List CircuitCell) (n : ℕ) → Counts rules ev n
    → Counts rules (settled rules left ev cells) n
count-settled rules left ev [] n is = is
count-settled rules left ev (cell ∷ cells) n is =
    count-closing rules (closing_at rules left ev cell) (forward_of cell) ev _ n is is
    (count-settled rules left (forward_of cell ∷ ev) cells n is)

count-taken : (rules : Rules) (cell : CircuitCell) (answer : TakeAnswer) (ev : List Event) (n : ℕ) → Counts rules ev n
    → Counts rules (taken_from_hop rules cell answer ev) n
count-taken rules cell TakeAnswer.Queued ev n is =
    count-if rules (cell.command == 3) (Backward cell.body ∷ ev) (Answered cell.body ∷ ev) n is is
count-taken rules cell (TakeAnswer.Down circ reason) ev n is =
    count-with rules (is_awaited (log rules ev) cell && is_some (closes rules ev (Answered cell.body))) (Answered cell.body) ev n
    refl is
count-taken rules cell answer ev n is = is

pub hops_are_counted : (rules : Rules) (h : List Step) (c : ℕ) → leg_count (circuit_log rules h c) ≡ hops h c
hops_are_counted rules [] c = refl
hops_are_counted rules (OpenCircuit chan id reply (Some keys) pad (Opened n) ∷ h) c =
    count-if rules (n.0 == c) _ _ _ (hops_are_counted rules h c) (hops_are_counted rules h c)
hops_are_counted rules (OpenCircuit chan id reply None pad (Opened n) ∷ h) c =
    count-if rules (n.0 == c) _ _ _ (hops_are_counted rules h c) (hops_are_counted rules h c)
hops_are_counted rules (Take chan cell answer ∷ h) c =
    count-if rules (is_hop_leg c (at h chan.0 cell.circ)) _ _ _
    (count-taken rules (circuit_cell cell) answer (events rules h c) _ (hops_are_counted rules h c)) (hops_are_counted rules h c)
hops_are_counted rules (GiveBack note place answer ∷ h) c =
    count-if rules (returns_forth c note answer) _ _ _
    (count-settled rules _ (events rules h c) (claimed_cells h note) _ (hops_are_counted rules h c))
    (hops_are_counted rules h c)
hops_are_counted rules (EdgeIn key EventStep.Connected Packed ∷ h) c =
    count-with rules (key.circ.0 == c) _ _ _ refl (hops_are_counted rules h c)
hops_are_counted rules (EdgeIn key (EventStep.Data octets) Packed ∷ h) c =
    count-with rules (key.circ.0 == c) _ _ _ refl (hops_are_counted rules h c)
hops_are_counted rules (EdgeIn key (EventStep.Ended reason) Packed ∷ h) c =
    count-with rules (key.circ.0 == c) _ _ _ refl (hops_are_counted rules h c)
hops_are_counted rules (Drained key Packed ∷ h) c =
    count-with rules (key.circ.0 == c) (DrainedEvent key.serial) _ _ refl (hops_are_counted rules h c)
hops_are_counted rules (Drained key Counted ∷ h) c =
    count-with rules (key.circ.0 == c) (DrainedEvent key.serial) _ _ refl (hops_are_counted rules h c)
hops_are_counted rules (EdgeOut slot (Some (OrderStep.Close key reason)) ∷ h) c =
    count-with rules ((key.circ.0 == c) && is_live_circuit rules h c) (Freed key.serial) _ _ refl (hops_are_counted rules h c)
hops_are_counted rules (DialDone order outcome (DialAnswer.Up n) ∷ h) c =
    count-link rules (order.circ.0 == c) _ _ (hops_are_counted rules h c)
hops_are_counted rules (DialDone order outcome (DialAnswer.Closed reason) ∷ h) c =
    count-with rules (order.circ.0 == c) Failed _ _ refl (hops_are_counted rules h c)
hops_are_counted rules (DialDone order outcome (DialAnswer.Full n) ∷ h) c =
    count-with rules (order.circ.0 == c) Failed _ _ refl (hops_are_counted rules h c)
hops_are_counted rules (s ∷ h) c = hops_are_counted rules h c
