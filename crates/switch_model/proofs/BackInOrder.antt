-- The bodies from next hops stand in a circuit's history as they were taken.
use Rattle.std.proofs.Common.{◌≡◌, ℕ, ◌==◌, ◌&&◌, Bool, true, false, if◌then◌else◌, is_some, List, [], ◌∷◌, ◌++◌, Some, None, refl}
use Rattle.circuit_model.specs.Events.{CircuitCell, Event}
use Rattle.circuit_model.specs.declared.event.Event.TheVariants.{Backward, Answered, Freed}
use Rattle.circuit_model.specs.Rules.{Rules}
use Rattle.circuit_model.specs.Words.{log, closes}
use Rattle.tr_io.specs.declared.answers.DialAnswer.{DialAnswer}
use Rattle.tr_io.specs.declared.answers.EdgeAnswer.TheVariants.{Packed, Counted}
use Rattle.tr_io.specs.declared.answers.OpenAnswer.TheVariants.{Opened}
use Rattle.tr_io.specs.declared.answers.TakeAnswer.{TakeAnswer}
use Rattle.tr_io.specs.declared.names.CircNo.{CircNo}
use Rattle.tr_io.specs.declared.step.EventStep.{EventStep}
use Rattle.tr_io.specs.declared.step.OrderStep.{OrderStep}
use Rattle.tr_io.specs.declared.step.Step.{Step}
use Rattle.tr_io.specs.declared.step.Step.TheVariants.{OpenCircuit, Take, GiveBack, EdgeIn, EdgeOut, Drained, DialDone}
use Rattle.switch_model.specs.Names.{circuit_cell}
use Rattle.switch_model.specs.History.Legs.{at}
use Rattle.switch_model.specs.History.Taken.{is_hop_leg, claimed_cells, taken_back}
use Rattle.switch_model.specs.History.Circuit.{is_live_circuit, events, with_event, taken_from_hop, returns_forth, is_awaited}
use Rattle.switch_model.specs.Waiting.Queues.{circuit_log}
use Rattle.circuit_model.specs.Batches.{forward_of}
use Rattle.switch_model.specs.History.Returns.{Closing, Goes, Closes, Full, closing_at, settled, settled_with}
use Rattle.switch_model.specs.History.Relayed.{backward_body, bodies_from_hops}

abbrev Are : Rules → List Event → List (List ℕ) → Type 0
Are rules ev bodies = bodies_from_hops (log rules ev) ≡ bodies

are-more : (rules : Rules) (e : Event) (ev : List Event) (bodies : List (List ℕ)) → backward_body e ≡ None → Are rules ev bodies
    → Are rules (e ∷ ev) bodies
are-more rules e ev bodies other are = rw other are

are-if : (rules : Rules) (b : Bool) (x y : List Event) (bodies : List (List ℕ)) → Are rules x bodies → Are rules y bodies
    → Are rules (if b then x else y) bodies
are-if rules true x y bodies here there = here
are-if rules false x y bodies here there = there

are-with : (rules : Rules) (b : Bool) (e : Event) (ev : List Event) (bodies : List (List ℕ)) → backward_body e ≡ None
    → Are rules ev bodies → Are rules (with_event b e ev) bodies
are-with rules true e ev bodies other are = are-more rules e ev bodies other are
are-with rules false e ev bodies other are = are

are-closing : (rules : Rules) (closing : Closing) (e : Event) (ev more : List Event) (bodies : List (List ℕ))
    → Are rules (e ∷ ev) bodies → Are rules ev bodies → Are rules more bodies → Are rules (settled_with closing e ev more) bodies
are-closing rules Goes e ev more bodies one none all = all
are-closing rules (Closes reason) e ev more bodies one none all = one
are-closing rules Full e ev more bodies one none all = none

are-settled : (rules : Rules) (left : ℕ) (ev : List Event) (cells : List CircuitCell) (bodies : List (List ℕ))
    → Are rules ev bodies → Are rules (settled rules left ev cells) bodies
are-settled rules left ev [] bodies are = are
are-settled rules left ev (cell ∷ cells) bodies are =
    let one = are-more rules (forward_of cell) ev bodies refl are in
    are-closing rules (closing_at rules left ev cell) (forward_of cell) ev _ bodies one are
    (are-settled rules left (forward_of cell ∷ ev) cells bodies one)

are-taken : (rules : Rules) (hop relay : Bool) (cell : CircuitCell) (ev : List Event) (bodies : List (List ℕ))
    → Are rules ev bodies →
    Are rules (if hop then (if relay then Backward cell.body ∷ ev else Answered cell.body ∷ ev) else ev)
    (if hop && relay then bodies ++ cell.body ∷ [] else bodies)
are-taken rules false relay cell ev bodies are = are
are-taken rules true false cell ev bodies are = are-more rules (Answered cell.body) ev bodies refl are
are-taken rules true true cell ev bodies are = rw are refl

are-down : (rules : Rules) (cell : CircuitCell) (circ : CircNo) (reason : ℕ) (ev : List Event) (bodies : List (List ℕ))
    → Are rules ev bodies → Are rules (taken_from_hop rules cell (TakeAnswer.Down circ reason) ev) bodies
are-down rules cell circ reason ev bodies are =
    are-with rules (is_awaited (log rules ev) cell && is_some (closes rules ev (Answered cell.body))) (Answered cell.body) ev
    bodies refl are

pub back_in_order : (rules : Rules) (h : List Step) (c : ℕ) → bodies_from_hops (circuit_log rules h c) ≡ taken_back h c
back_in_order rules [] c = refl
back_in_order rules (OpenCircuit chan id reply (Some keys) pad (Opened n) ∷ h) c =
    are-if rules (n.0 == c) _ _ _ (back_in_order rules h c) (back_in_order rules h c)
back_in_order rules (OpenCircuit chan id reply None pad (Opened n) ∷ h) c =
    are-if rules (n.0 == c) _ _ _ (back_in_order rules h c) (back_in_order rules h c)
back_in_order rules (Take chan cell TakeAnswer.Queued ∷ h) c =
    are-taken rules (is_hop_leg c (at h chan.0 cell.circ)) (cell.command == 3) (circuit_cell cell) (events rules h c)
    (taken_back h c) (back_in_order rules h c)
back_in_order rules (Take chan cell (TakeAnswer.Down circ reason) ∷ h) c =
    are-if rules (is_hop_leg c (at h chan.0 cell.circ)) _ _ _
    (are-down rules (circuit_cell cell) circ reason (events rules h c) _ (back_in_order rules h c)) (back_in_order rules h c)
back_in_order rules (Take chan cell answer ∷ h) c =
    are-if rules (is_hop_leg c (at h chan.0 cell.circ)) _ _ _ (back_in_order rules h c) (back_in_order rules h c)
back_in_order rules (GiveBack note place answer ∷ h) c =
    are-if rules (returns_forth c note answer) _ _ _
    (are-settled rules _ (events rules h c) (claimed_cells h note) _ (back_in_order rules h c)) (back_in_order rules h c)
back_in_order rules (EdgeIn key EventStep.Connected Packed ∷ h) c =
    are-with rules (key.circ.0 == c) _ _ _ refl (back_in_order rules h c)
back_in_order rules (EdgeIn key (EventStep.Data octets) Packed ∷ h) c =
    are-with rules (key.circ.0 == c) _ _ _ refl (back_in_order rules h c)
back_in_order rules (EdgeIn key (EventStep.Ended reason) Packed ∷ h) c =
    are-with rules (key.circ.0 == c) _ _ _ refl (back_in_order rules h c)
back_in_order rules (Drained key Packed ∷ h) c = are-with rules (key.circ.0 == c) _ _ _ refl (back_in_order rules h c)
back_in_order rules (Drained key Counted ∷ h) c = are-with rules (key.circ.0 == c) _ _ _ refl (back_in_order rules h c)
back_in_order rules (EdgeOut slot (Some (OrderStep.Close key reason)) ∷ h) c =
    are-with rules ((key.circ.0 == c) && is_live_circuit rules h c) (Freed key.serial) (events rules h c) _ refl
    (back_in_order rules h c)
back_in_order rules (DialDone order outcome (DialAnswer.Up n) ∷ h) c =
    are-with rules (order.circ.0 == c) _ _ _ refl (back_in_order rules h c)
back_in_order rules (DialDone order outcome (DialAnswer.Closed reason) ∷ h) c =
    are-with rules (order.circ.0 == c) _ _ _ refl (back_in_order rules h c)
back_in_order rules (DialDone order outcome (DialAnswer.Full n) ∷ h) c =
    are-with rules (order.circ.0 == c) _ _ _ refl (back_in_order rules h c)
back_in_order rules (s ∷ h) c = back_in_order rules h c
