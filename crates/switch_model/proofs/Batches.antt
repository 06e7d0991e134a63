-- Bodies that come home together: a TRUNCATE among them ends the current leg before a later one closes.
use Rattle.std.proofs.Common.{◌≡◌, ℕ, ◌==◌, Bool, true, false, if◌then◌else◌, List, [], ◌∷◌, ◌++◌, length, Some, None, refl, ap, ◌∙◌}
use Rattle.circuit_model.specs.Events.{CircuitCell, Event}
use Rattle.circuit_model.specs.Extending.{truncate_effects}
use Rattle.circuit_model.specs.Log.{Effects, closing}
use Rattle.circuit_model.specs.NextHop.{next_hop, is_absent}
use Rattle.circuit_model.specs.Rules.{Rules}
use Rattle.circuit_model.specs.Words.{effects, log}
use Rattle.tor_spec.specs.Reasons.{destroy_requested}
use Rattle.tr_io.specs.declared.names.ClaimNote.{ClaimNote}
use Rattle.tr_io.specs.declared.names.Dir.TheVariants.{Forth}
use Rattle.tr_io.specs.declared.step.Step.{Step}
use Rattle.switch_model.specs.History.Legs.{Port, port, hops, at}
use Rattle.switch_model.specs.Names.{is_leg}
use Rattle.switch_model.specs.History.Taken.{claimed_cells}
use Rattle.switch_model.specs.History.Circuit.{is_live_circuit, sent, events, current_leg}
use Rattle.switch_model.specs.Waiting.Lanes.{Destroy, lane}
use Rattle.switch_model.specs.Waiting.Queues.{circuit_log}
use Rattle.circuit_model.specs.Batches.{forward_of}
use Rattle.switch_model.specs.History.Returns.{Goes, closing_at, settled}
use Rattle.switch_model.specs.Examples.{closing_return}
use Rattle.switch_model.proofs.Common.{self_eq}

settled-both : (rules : Rules) (left reason : ℕ) (ev : List Event) (truncate closer : CircuitCell) →
    closing_at rules left ev truncate ≡ Goes → effects rules (forward_of truncate ∷ ev) (forward_of closer) ≡ closing reason →
    settled rules left ev (truncate ∷ closer ∷ []) ≡ forward_of closer ∷ forward_of truncate ∷ ev
settled-both rules left reason ev truncate closer goes closes = rw (goes, closes, ap (λ (e : Effects). e.close) closes) refl

no-leg : (rules : Rules) (reason : ℕ) (ev : List Event) (truncate closer : CircuitCell)
    → is_absent (next_hop (log rules ev)) ≡ false →
    effects rules ev (forward_of truncate) ≡ truncate_effects (log rules ev)
    → effects rules (forward_of truncate ∷ ev) (forward_of closer) ≡ closing reason →
    current_leg (log rules (forward_of closer ∷ forward_of truncate ∷ ev)) ≡ None
no-leg rules reason ev truncate closer there cuts closes = rw (closes, cuts, there) refl

events-both : (rules : Rules) (h : List Step) (note : ClaimNote) (reason : ℕ) (truncate closer : CircuitCell) → note.dir ≡ Forth
    → claimed_cells h note ≡ truncate ∷ closer ∷ [] →
    closing_at rules (length (sent rules h note.circ.0 0)) (events rules h note.circ.0) truncate ≡ Goes →
    effects rules (forward_of truncate ∷ events rules h note.circ.0) (forward_of closer) ≡ closing reason →
    events rules (closing_return note reason h) note.circ.0 ≡ forward_of closer ∷ forward_of truncate ∷ events rules h note.circ.0
events-both rules h note reason truncate closer forth claimed goes closes =
    rw (self_eq note.circ.0, forth, claimed)
    (settled-both rules (length (sent rules h note.circ.0 0)) reason (events rules h note.circ.0) truncate closer goes closes)

either-way : (b : Bool) (xs : List Destroy) → (if b then xs else xs) ≡ xs
either-way true xs = refl
either-way false xs = refl

put-both : (rules : Rules) (h : List Step) (note : ClaimNote) (reason : ℕ) (client hop : Port) →
    is_live_circuit rules h note.circ.0 ≡ true → hops h note.circ.0 ≡ 1 → port h note.circ.0 0 ≡ Some client
    → port h note.circ.0 1 ≡ Some hop →
    (client.chan == hop.chan) ≡ false → at h hop.chan hop.id ≡ Some (record { circ = note.circ.0; number = 1 })
    → current_leg (circuit_log rules (closing_return note reason h) note.circ.0) ≡ None →
    lane rules (closing_return note reason h) hop.chan ≡ lane rules h hop.chan
    ++ record { id = hop.id; reason = destroy_requested; refusal = false } ∷ []
put-both rules h note reason client hop alive hops_are port_0 port_1 apart holds none =
    rw (
      alive,
      hops_are,
      none,
      port_0,
      port_1,
      apart,
      holds,
      self_eq note.circ.0,
      self_eq hop.chan,
      either-way (is_leg note.circ.0 0 (at h client.chan client.id)) [],
    ) refl

pub truncated_then_closed : (rules : Rules) (h : List Step) (note : ClaimNote) (reason : ℕ) (truncate closer : CircuitCell)
    (client hop : Port) →
    is_live_circuit rules h note.circ.0 ≡ true → hops h note.circ.0 ≡ 1 → port h note.circ.0 0 ≡ Some client
    → port h note.circ.0 1 ≡ Some hop →
    (client.chan == hop.chan) ≡ false → at h hop.chan hop.id ≡ Some (record { circ = note.circ.0; number = 1 })
    → is_absent (next_hop (circuit_log rules h note.circ.0)) ≡ false →
    note.dir ≡ Forth → claimed_cells h note ≡ truncate ∷ closer ∷ [] →
    closing_at rules (length (sent rules h note.circ.0 0)) (events rules h note.circ.0) truncate ≡ Goes →
    effects rules (events rules h note.circ.0) (forward_of truncate) ≡ truncate_effects (circuit_log rules h note.circ.0) →
    effects rules (forward_of truncate ∷ events rules h note.circ.0) (forward_of closer) ≡ closing reason →
    lane rules (closing_return note reason h) hop.chan ≡ lane rules h hop.chan
    ++ record { id = hop.id; reason = destroy_requested; refusal = false } ∷ []
truncated_then_closed rules h note reason truncate closer client hop alive hops_are port_0 port_1 apart holds there forth claimed
    goes cuts closes =
    let given : events rules (closing_return note reason h) note.circ.0 ≡ forward_of closer ∷ forward_of truncate ∷ events rules h
    note.circ.0 = events-both rules h note reason truncate closer forth claimed goes closes in
    let none : current_leg (circuit_log rules (closing_return note reason h) note.circ.0) ≡ None =
    ap (λ ev. current_leg (log rules ev)) given ∙ no-leg rules reason (events rules h note.circ.0) truncate closer there cuts
    closes in
    put-both rules h note reason client hop alive hops_are port_0 port_1 apart holds none
