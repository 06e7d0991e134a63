-- Only a return of forward bodies adds forward cells to a circuit's history.
use Rattle.std.proofs.Common.{◌≡◌, ℕ, ◌==◌, ◌&&◌, Bool, true, false, if◌then◌else◌, List, ◌∷◌, Some, None, refl}
use Rattle.circuit_model.specs.Events.{CircuitCell, Event}
use Rattle.circuit_model.specs.declared.event.Event.TheVariants.{Born, Backward, Answered, Connected, Data, Ended, Drained as DrainedEvent, Freed, Linked, Failed}
use Rattle.circuit_model.specs.Rules.{Rules}
use Rattle.circuit_model.specs.Words.{log}
use Rattle.tr_io.specs.declared.answers.DialAnswer.{DialAnswer}
use Rattle.tr_io.specs.declared.answers.EdgeAnswer.TheVariants.{Packed, Counted}
use Rattle.tr_io.specs.declared.answers.OpenAnswer.TheVariants.{Opened}
use Rattle.tr_io.specs.declared.answers.TakeAnswer.{TakeAnswer}
use Rattle.tr_io.specs.declared.step.EventStep.{EventStep}
use Rattle.tr_io.specs.declared.step.OrderStep.{OrderStep}
use Rattle.tr_io.specs.declared.step.Step.{Step}
use Rattle.tr_io.specs.declared.step.Step.TheVariants.{OpenCircuit, Take, GiveBack, EdgeIn, EdgeOut, Drained, DialDone}
use Rattle.switch_model.specs.Names.{circuit_cell}
use Rattle.switch_model.specs.History.Legs.{at}
use Rattle.switch_model.specs.History.Taken.{is_hop_leg}
use Rattle.switch_model.specs.History.Circuit.{is_live_circuit, events, with_event, taken_from_hop, returns_forth}
use Rattle.switch_model.specs.Waiting.Queues.{circuit_log}
use Rattle.switch_model.specs.History.Relayed.{settled_forth}

-- whether a step is such a return for circuit c
abbrev pub settles_forth : ℕ → Step → Bool
settles_forth c (GiveBack note place answer) = returns_forth c note answer
settles_forth c s = false

abbrev Same : Rules → List Event → List Event → Type 0
Same rules x ev = settled_forth (log rules x) ≡ settled_forth (log rules ev)

same-if : (rules : Rules) (b : Bool) (x ev : List Event) → Same rules x ev → Same rules (if b then x else ev) ev
same-if rules true x ev same = same
same-if rules false x ev same = refl

same-either : (rules : Rules) (b : Bool) (x y ev : List Event) → Same rules x ev → Same rules y ev
    → Same rules (if b then x else y) ev
same-either rules true x y ev one other = one
same-either rules false x y ev one other = other

same-with : (rules : Rules) (b : Bool) (e : Event) (ev : List Event) → Same rules (e ∷ ev) ev → Same rules (with_event b e ev) ev
same-with rules true e ev same = same
same-with rules false e ev same = refl

same-taken : (rules : Rules) (cell : CircuitCell) (answer : TakeAnswer) (ev : List Event)
    → Same rules (taken_from_hop rules cell answer ev) ev
same-taken rules cell TakeAnswer.Queued ev =
    same-either rules (cell.command == 3) (Backward cell.body ∷ ev) (Answered cell.body ∷ ev) ev refl refl
same-taken rules cell (TakeAnswer.Down circ reason) ev = same-with rules _ (Answered cell.body) ev refl
same-taken rules cell answer ev = refl

same-return : (rules : Rules) (b : Bool) (x ev : List Event) → b ≡ false → Same rules (if b then x else ev) ev
same-return rules true x ev none = absurd cc
same-return rules false x ev none = refl

pub forth-same : (rules : Rules) (h : List Step) (s : Step) (c : ℕ) → settles_forth c s ≡ false
    → settled_forth (circuit_log rules (s ∷ h) c) ≡ settled_forth (circuit_log rules h c)
forth-same rules h (OpenCircuit chan id reply (Some keys) pad (Opened n)) c none =
    same-if rules (n.0 == c) (Born (circuit_cell reply) keys pad ∷ events rules h c) (events rules h c) refl
forth-same rules h (OpenCircuit chan id reply None pad (Opened n)) c none =
    same-if rules (n.0 == c) (events rules h c) (events rules h c) refl
forth-same rules h (Take chan cell answer) c none =
    same-if rules (is_hop_leg c (at h chan.0 cell.circ)) (taken_from_hop rules (circuit_cell cell) answer (events rules h c))
    (events rules h c) (same-taken rules (circuit_cell cell) answer (events rules h c))
forth-same rules h (GiveBack note place answer) c none = same-return rules (returns_forth c note answer) _ (events rules h c) none
forth-same rules h (EdgeIn key EventStep.Connected Packed) c none =
    same-with rules (key.circ.0 == c) (Connected key.serial) (events rules h c) refl
forth-same rules h (EdgeIn key (EventStep.Data octets) Packed) c none =
    same-with rules (key.circ.0 == c) (Data key.serial octets.bytes.items) (events rules h c) refl
forth-same rules h (EdgeIn key (EventStep.Ended reason) Packed) c none =
    same-with rules (key.circ.0 == c) (Ended key.serial reason) (events rules h c) refl
forth-same rules h (Drained key Packed) c none =
    same-with rules (key.circ.0 == c) (DrainedEvent key.serial) (events rules h c) refl
forth-same rules h (Drained key Counted) c none =
    same-with rules (key.circ.0 == c) (DrainedEvent key.serial) (events rules h c) refl
forth-same rules h (EdgeOut slot (Some (OrderStep.Close key reason))) c none =
    same-with rules ((key.circ.0 == c) && is_live_circuit rules h c) (Freed key.serial) (events rules h c) refl
forth-same rules h (DialDone order outcome (DialAnswer.Up n)) c none =
    same-with rules (order.circ.0 == c) Linked (events rules h c) refl
forth-same rules h (DialDone order outcome (DialAnswer.Closed reason)) c none =
    same-with rules (order.circ.0 == c) Failed (events rules h c) refl
forth-same rules h (DialDone order outcome (DialAnswer.Full n)) c none =
    same-with rules (order.circ.0 == c) Failed (events rules h c) refl
forth-same rules h s c none = refl
