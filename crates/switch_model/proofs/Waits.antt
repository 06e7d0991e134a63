-- What was sent on a leg and what waits there, and the order in which bodies go back.
use Rattle.std.proofs.Common.{◌≡◌, ℕ, true, false, List, [], ◌∷◌, ◌++◌, length, Some, refl, ap, append_assoc}
use Rattle.cell_codec.specs.declared.cell.Cell.{Cell}
use Rattle.circuit_model.specs.Effects.{open_effects}
use Rattle.circuit_model.specs.Events.{CircuitCell}
use Rattle.circuit_model.specs.declared.event.Event.TheVariants.{Backward}
use Rattle.circuit_model.specs.Log.{is_closed}
use Rattle.circuit_model.specs.Packaged.{back_bodies}
use Rattle.circuit_model.specs.Rules.{Rules}
use Rattle.circuit_model.specs.Words.{effects, log}
use Rattle.tr_io.specs.declared.answers.TakeAnswer.TheVariants.{Queued}
use Rattle.tr_io.specs.declared.names.ChanNo.{ChanNo}
use Rattle.tr_io.specs.declared.names.ClaimNote.{ClaimNote}
use Rattle.tr_io.specs.declared.names.Dir.TheVariants.{Forth}
use Rattle.tr_io.specs.declared.step.Step.{Step}
use Rattle.tr_io.specs.declared.step.Step.TheVariants.{Take}
use Rattle.switch_model.specs.Names.{circuit_cell}
use Rattle.switch_model.specs.History.Legs.{at, holds_id}
use Rattle.switch_model.specs.History.Taken.{is_hop_leg, claimed_cells}
use Rattle.switch_model.specs.History.Circuit.{is_live_circuit, sent, events}
use Rattle.switch_model.specs.Waiting.Queues.{circuit_log, sealed_count, sendable, queue}
use Rattle.circuit_model.specs.Batches.{forward_of}
use Rattle.switch_model.specs.History.Returns.{Goes, closing_at}
use Rattle.switch_model.specs.Examples.{hop_cell_then_return}
use Rattle.switch_model.proofs.Common.{self_eq, drop-front}

pub sent_and_queued : (rules : Rules) (h : List Step) (c k : ℕ) (rest : List CircuitCell) → is_live_circuit rules h c ≡ true
    → holds_id h c k ≡ true →
    sent rules h c k ++ rest ≡ sendable (circuit_log rules h c) (sealed_count h c) k
    → sent rules h c k ++ queue rules h c k ≡ sendable (circuit_log rules h c) (sealed_count h c) k
sent_and_queued rules h c k rest alive holds known =
    rw (alive, holds, ← known) (ap (λ l. sent rules h c k ++ l) (drop-front (sent rules h c k) rest))

-- the events of the circuit, newest first
events_then : (rules : Rules) (h : List Step) (note : ClaimNote) (chan : ChanNo) (from_hop : Cell) (cell : CircuitCell) →
    is_hop_leg note.circ.0 (at h chan.0 from_hop.circ) ≡ true → from_hop.command ≡ 3 → note.dir ≡ Forth →
    claimed_cells (Take chan from_hop Queued ∷ h) note ≡ cell ∷ [] →
    closing_at rules (length (sent rules h note.circ.0 0)) (Backward (circuit_cell from_hop).body ∷ events rules h note.circ.0)
    cell ≡ Goes →
    events rules (hop_cell_then_return note chan from_hop h) note.circ.0 ≡ forward_of cell ∷ Backward (circuit_cell from_hop).body
    ∷ events rules h note.circ.0
events_then rules h note chan from_hop cell on_leg relay forth claimed goes =
    rw (claimed, self_eq note.circ.0, forth, on_leg, relay, goes) refl

behind_then : (rules : Rules) (history : List _) (body answer : List ℕ) (cell : CircuitCell)
    → is_closed (log rules history) ≡ false →
    (effects rules (Backward body ∷ history) (forward_of cell)).back ≡ Some answer →
    back_bodies (log rules (forward_of cell ∷ Backward body ∷ history)) ≡ back_bodies (log rules history) ++ body ∷ answer ∷ []
unfolding open_effects
behind_then rules history body answer cell opened packaged = rw (packaged, opened) (append_assoc _ (body ∷ []) (answer ∷ []))

pub next_hops_body_first : (rules : Rules) (h : List Step) (note : ClaimNote) (chan : ChanNo) (from_hop : Cell)
    (cell : CircuitCell) (answer : List ℕ) →
    is_closed (circuit_log rules h note.circ.0) ≡ false →
    is_hop_leg note.circ.0 (at h chan.0 from_hop.circ) ≡ true → from_hop.command ≡ 3 → note.dir ≡ Forth →
    claimed_cells (Take chan from_hop Queued ∷ h) note ≡ cell ∷ [] →
    closing_at rules (length (sent rules h note.circ.0 0)) (Backward (circuit_cell from_hop).body ∷ events rules h note.circ.0)
    cell ≡ Goes →
    (effects rules (Backward (circuit_cell from_hop).body ∷ events rules h note.circ.0) (forward_of cell)).back ≡ Some answer →
    back_bodies (circuit_log rules (hop_cell_then_return note chan from_hop h) note.circ.0)
    ≡ back_bodies (circuit_log rules h note.circ.0) ++ (circuit_cell from_hop).body ∷ answer ∷ []
next_hops_body_first rules h note chan from_hop cell answer opened on_leg relay forth claimed goes packaged =
    rw (events_then rules h note chan from_hop cell on_leg relay forth claimed goes)
    (behind_then rules (events rules h note.circ.0) (circuit_cell from_hop).body answer cell opened packaged)
