-- next_cell that gives the first cell of a leg keeps what a state stands for.
use Rattle.std.proofs.Common.{◌≡◌, ℕ, ◌==◌, ◌&&◌, Bool, true, false, if◌then◌else◌, List, [], ◌∷◌, ◌++◌, Option, Some, None, length, zero, suc, refl, sym, ◌∙◌, subst, inl, inr, append_assoc, arith}
use Rattle.std.proofs.Math.Dec.{eqb-suc-zero}
use Rattle.std.proofs.lemmas.Bool.Decides.{eqb_tells}
use Rattle.std.proofs.lemmas.Grind.{common_steps}
use Rattle.cell_codec.specs.declared.cell.Cell.{Cell}
use Rattle.circuit_model.specs.Events.{CircuitCell}
use Rattle.circuit_model.specs.Rules.{Rules}
use Rattle.tr_io.specs.declared.step.Step.{Step}
use Rattle.tr_io.specs.declared.step.Step.TheVariants.{NextCell}
use Rattle.switch_model.specs.Names.{Leg, is_leg, chan_no}
use Rattle.switch_model.specs.History.Legs.{at, holds_id}
use Rattle.switch_model.specs.History.Circuit.{is_live_circuit, sent}
use Rattle.switch_model.specs.Waiting.Queues.{circuit_log, sealed_count, sendable}
use Rattle.switch_model.specs.Waiting.Counts.{charged}
use Rattle.switch_model.specs.History.Past.{past}
use Rattle.switch_model.specs.History.EdgePast.{edge_past}
use Rattle.switch_model.specs.Answers.EdgeOut.{Ordered}
use Rattle.switch_model.specs.Answers.NextCell.{cell_at}
use Rattle.switch_machine.specs.State.{LegState, CircuitState, slot_at}
use Rattle.switch_machine.specs.Calls.NextCell.{count_of, sent_first, sent_after, circuit_sent}
use Rattle.switch_machine.specs.Stands.OneLeg.{LegAt, LegStands}
use Rattle.switch_machine.specs.Stands.OneCircuit.{CircuitStands}
use Rattle.switch_model.proofs.Common.{self_eq, not_equal, and-first, and-second, same-number}
use Rattle.switch_machine.proofs.Slots.{slot_at-with, length-with, slot_at-inside}
use Rattle.switch_machine.proofs.NextCell.Destroy.{holds-on}

-- which leg a CircID names
pub leg-named : (c k d j : ℕ) (x : Option Leg) → is_leg c k x ≡ true → is_leg d j x ≡ ((c == d) && (k == j))
leg-named c k d j None named = cc
leg-named c k d j (Some leg) named =
    let same_circ : leg.circ ≡ c = same-number leg.circ c (and-first (leg.circ == c) _ named) in
    let same_leg : leg.number ≡ k = same-number leg.number k (and-second (leg.circ == c) _ named) in
    rw (same_circ, same_leg) refl

-- what may leave stays the same
sendable-next : (rules : Rules) (h : List Step) (chan new_tick : ℕ) (cell : Cell) (c k : ℕ) →
    sendable (circuit_log rules (NextCell (chan_no chan) new_tick (Some cell) ∷ h) c)
    (sealed_count (NextCell (chan_no chan) new_tick (Some cell) ∷ h) c) k
    ≡ sendable (circuit_log rules h c) (sealed_count h c) k
sendable-next rules h chan new_tick cell c k = refl

-- the leg after its first cell left

sent-one : (rules : Rules) (h : List Step) (new_tick : ℕ) (c k : ℕ) (leg : LegState) (cell : CircuitCell)
    (cells : List CircuitCell) →
    is_live_circuit rules h c ≡ true → leg.queue ≡ cell ∷ cells → is_leg c k (at h leg.chan leg.id) ≡ true
    → LegStands rules leg k (past rules h c) (holds_id h c k) →
    sent rules (NextCell (chan_no leg.chan) new_tick (Some (cell_at leg.id cell)) ∷ h) c k ++ cells
    ≡ sendable (circuit_log rules (NextCell (chan_no leg.chan) new_tick (Some (cell_at leg.id cell)) ∷ h) c)
    (sealed_count (NextCell (chan_no leg.chan) new_tick (Some (cell_at leg.id cell)) ∷ h) c) k
sent-one rules h new_tick c k leg cell cells alive queued named own =
    rw (named, alive, sendable-next rules h leg.chan new_tick (cell_at leg.id cell) c k)
    (append_assoc (sent rules h c k) (cell ∷ []) cells ∙ rw queued at own.cells)

leg-kept : (rules : Rules) (h : List Step) (new_tick : ℕ) (c k now : ℕ) (leg : LegState) (cell : CircuitCell)
    (cells : List CircuitCell) (b : Bool) → (cell.command == 4) ≡ b →
    is_live_circuit rules h c ≡ true → leg.queue ≡ cell ∷ cells → is_leg c k (at h leg.chan leg.id) ≡ true
    → LegStands rules leg k (past rules h c) (holds_id h c k) →
    LegAt rules (if b then None else Some (record leg { queue = cells; count = charged (count_of now leg); counted_at = now })) k
    (past rules (NextCell (chan_no leg.chan) new_tick (Some (cell_at leg.id cell)) ∷ h) c)
    (holds_id (NextCell (chan_no leg.chan) new_tick (Some (cell_at leg.id cell)) ∷ h) c k)
leg-kept rules h new_tick c k now leg cell cells true is_destroy alive queued named own =
    rw (own.port, self_eq leg.chan, self_eq leg.id, is_destroy) refl
leg-kept rules h new_tick c k now leg cell cells false is_destroy alive queued named own = record {
  holds = rw (own.port, self_eq leg.chan, self_eq leg.id, is_destroy) named;
  port = own.port;
  cells = sent-one rules h new_tick c k leg cell cells alive queued named own;
}

-- another leg of the circuit
leg-other : (rules : Rules) (h : List Step) (chan new_tick : ℕ) (cell : Cell) (c j : ℕ) (y : Option LegState)
    → is_leg c j (at h chan cell.circ) ≡ false →
    LegAt rules y j (past rules h c) (holds_id h c j) →
    LegAt rules y j (past rules (NextCell (chan_no chan) new_tick (Some cell) ∷ h) c)
    (holds_id (NextCell (chan_no chan) new_tick (Some cell) ∷ h) c j)
leg-other rules h chan new_tick cell c j None none own = holds-on h chan new_tick cell c j none ∙ own
leg-other rules h chan new_tick cell c j (Some leg) none own = record {
  holds = holds-on h chan new_tick cell c j none ∙ own.holds;
  port = own.port;
  cells = rw (none, sendable-next rules h chan new_tick cell c j) own.cells;
}

-- the circuit after a leg's first cell left
count-sent : (rules : Rules) (h : List Step) (chan new_tick c k count : ℕ) (cell : Cell) → is_leg c k (at h chan cell.circ) ≡ true
    → is_live_circuit rules h c ≡ true → count ≡ length (sent rules h c 0) →
    sent_after k count ≡ length (sent rules (NextCell (chan_no chan) new_tick (Some cell) ∷ h) c 0)
count-sent rules h chan new_tick c zero count cell named alive same = rw (named, alive, same) (grind (arith, common_steps))
count-sent rules h chan new_tick c (suc k) count cell named alive same =
    rw (leg-named c (suc k) c 0 (at h chan cell.circ) named, self_eq c, eqb-suc-zero k) same

pub circuit-sent : (rules : Rules) (closes : List Ordered) (h : List Step) (new_tick now : ℕ) (c k : ℕ) (x : CircuitState)
    (leg : LegState) (cell : CircuitCell) (cells : List CircuitCell) →
    slot_at x.legs k ≡ Some leg → leg.queue ≡ cell ∷ cells → is_leg c k (at h leg.chan leg.id) ≡ true →
    CircuitStands rules closes x c (past rules h c) (λ j. holds_id h c j) (edge_past rules h c) →
    CircuitStands rules closes (circuit_sent now k x leg (cell ∷ cells)) c
    (past rules (NextCell (chan_no leg.chan) new_tick (Some (cell_at leg.id cell)) ∷ h) c)
    (λ j. holds_id (NextCell (chan_no leg.chan) new_tick (Some (cell_at leg.id cell)) ∷ h) c j)
    (edge_past rules (NextCell (chan_no leg.chan) new_tick (Some (cell_at leg.id cell)) ∷ h) c)
circuit-sent rules closes h new_tick now c k x leg cell cells found queued named own =
    let step = NextCell (chan_no leg.chan) new_tick (Some (cell_at leg.id cell)) in
    let inside = slot_at-inside x.legs k leg found in
    let leg_own : LegStands rules leg k (past rules h c) (holds_id h c k) =
    subst (λ y. LegAt rules y k (past rules h c) (holds_id h c k)) found (own.legs k) in
    record {
      live = own.live;
      sent_count = count-sent rules h leg.chan new_tick c k x.sent_count (cell_at leg.id cell) named own.live own.sent_count;
      born = own.born;
      sealed = own.sealed;
      linked = own.linked;
      hops = length-with x.legs k _ ∙ own.hops;
      legs = λ j. elim (eqb_tells j k) [
        | inl (is_it, same) ↦ rw (slot_at-with x.legs k (sent_first now leg (cell ∷ cells)) j inside, is_it)
            (subst (λ i. LegAt rules (sent_first now leg (cell ∷ cells)) i (past rules (step ∷ h) c) (holds_id (step ∷ h) c i))
            (sym same)
            (leg-kept rules h new_tick c k now leg cell cells (cell.command == 4) refl own.live queued named leg_own))
        | inr (is_it, other) ↦ rw (slot_at-with x.legs k (sent_first now leg (cell ∷ cells)) j inside, is_it)
            (leg-other rules h leg.chan new_tick (cell_at leg.id cell) c j (slot_at x.legs j)
            (leg-named c k c j (at h leg.chan leg.id) named ∙ rw (self_eq c, not_equal k j other) refl) (own.legs j))
      ];
      forth = own.forth;
      back = own.back;
      orders = own.orders;
      no_left = own.no_left;
      dial = own.dial;
    }
