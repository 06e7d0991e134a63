-- give_back, and the checks of every return.
use Rattle.std.specs.Prelude.{ℕ, ◌==◌, nat_lt, not, length, if◌then◌else◌, map, List, [], ◌∷◌, Option, Some, None}
use Rattle.circuit_model.specs.Events.{CircuitCell, Event}
use Rattle.circuit_model.specs.Rules.{Rules}
use Rattle.circuit_model.specs.Sent.{all_sealed}
use Rattle.circuit_model.specs.Opened.{born_keys}
use Rattle.circuit_model.specs.Words.{log}
use Rattle.tr_io.specs.declared.answers.BackAnswer.{BackAnswer}
use Rattle.tr_io.specs.declared.answers.Difference.{Difference}
use Rattle.tr_io.specs.declared.names.ClaimNote.{ClaimNote}
use Rattle.tr_io.specs.declared.names.Dir.{Dir}
use Rattle.tr_io.specs.declared.names.Dir.TheVariants.{Forth, Back}
use Rattle.switch_model.specs.Answers.GiveBack.{is_note, returned, done_by}
use Rattle.circuit_model.specs.Batches.{forward_of, body_of}
use Rattle.switch_model.specs.History.Returns.{settling_reason, settled, Closing, Goes, Closes, Full, closing_at}
use Rattle.switch_machine.specs.State.{KeptClaim, WayState, CircuitState, State, slot_at, with_slot}
use Rattle.switch_machine.specs.Machine.{counted, way_of_circuit, kept_note, kept_cells}
use Rattle.switch_machine.specs.Calls.Settling.{Settling, queued_on, settle_event, unsettled, with_settled}
use Rattle.switch_machine.specs.Calls.TearDown.{torn_state}

-- The answer.

-- Of a job that is what the switch gave out.
abbrev pub done_result : Rules → List Event → CircuitState → Dir → BackAnswer
done_result rules ev x Back = BackAnswer.Settled
done_result rules ev x Forth = done_by (settling_reason rules x.sent_count ev (kept_cells x.forth.claim_out))

-- Of a return for a circuit that was opened here; `answer` is given to one that passes.
abbrev pub return_result_on : ClaimNote → Option ℕ → Option CircuitState → (CircuitState → BackAnswer) → BackAnswer
return_result_on note place None answer = BackAnswer.Gone
return_result_on note place (Some x) answer =
    if not (is_note note (kept_note (way_of_circuit x note.dir).claim_out))
    then BackAnswer.Stranger (Difference.Note (kept_note (way_of_circuit x note.dir).claim_out) note)
    else returned note place (answer x)

abbrev pub return_result : ℕ → State → ClaimNote → Option ℕ → (CircuitState → BackAnswer) → BackAnswer
return_result name s note place answer =
    if not (note.switch == name) then BackAnswer.Stranger (Difference.Note None note)
    else if not (nat_lt note.circ.0 (length s.circuits)) then BackAnswer.Stranger (Difference.Note None note)
    else return_result_on note place (slot_at s.circuits note.circ.0) answer

abbrev pub give_back_result : ℕ → Rules → (ℕ → List Event) → State → ClaimNote → Option ℕ → BackAnswer
give_back_result name rules ev s note place =
    return_result name s note place (λ x. done_result rules (ev note.circ.0) x note.dir)

-- Bodies that come home opened.

abbrev pub settle_one : Rules → CircuitCell → Settling → Settling
settle_one rules cell y = settle_event rules (forward_of cell) y

-- `one` is the circuit with the first cell, `all` with those behind it too.
abbrev pub settle_with : Closing → Settling → Settling → Settling → Settling
settle_with Goes y one all = all
settle_with (Closes reason) y one all = one
settle_with Full y one all = y

-- The cells settle one after another, up to the first that closes.
abbrev pub settle_all : Rules → Settling → List CircuitCell → Settling
settle_all rules y [] = y
settle_all rules y (cell ∷ cells) =
    settle_with (closing_at rules y.circuit.sent_count y.events cell) y (settle_one rules cell y)
    (settle_all rules (settle_one rules cell y) cells)

-- The claim of a direction came home.
abbrev pub home_way : WayState → WayState
home_way way = record way { claim_out = None }

-- The circuit once its claimed bodies, these, came home.
abbrev pub settled_home : Rules → List Event → State → CircuitState → List CircuitCell → Settling
settled_home rules ev s x cells =
    record (settle_all rules (unsettled ev s x) cells) {
      circuit = record ((settle_all rules (unsettled ev s x) cells).circuit) { forth = home_way x.forth };
    }

-- The switch with it.
abbrev pub settled_state : Rules → List Event → State → ℕ → CircuitState → List CircuitCell → State
settled_state rules ev s c x cells = with_settled s c (settled_home rules ev s x cells)

-- Bodies that come home sealed enter leg 0, numbered from n on.
abbrev pub sealed_cells : List ℕ → ℕ → List CircuitCell → List CircuitCell
sealed_cells key n cells = all_sealed key n (map body_of cells)

abbrev pub first_kept : Option KeptClaim → ℕ
first_kept (Some claim_out) = claim_out.note.first
first_kept None = 0

abbrev pub sealed_circuit : Rules → List Event → CircuitState → CircuitState
sealed_circuit rules ev x = record x {
  legs = queued_on x.legs 0
      (sealed_cells (born_keys (log rules ev)).kb (first_kept x.back.claim_out) (kept_cells x.back.claim_out));
  back = home_way x.back;
}

abbrev pub sealed_state : Rules → List Event → State → ℕ → CircuitState → State
sealed_state rules ev s c x = record (counted s) { circuits = with_slot s.circuits c (Some (sealed_circuit rules ev x)) }

-- The state, by the answer.

abbrev pub done_state : Rules → List Event → State → ℕ → CircuitState → Dir → State
done_state rules ev s c x Forth = settled_state rules ev s c x (kept_cells x.forth.claim_out)
done_state rules ev s c x Back = sealed_state rules ev s c x

-- Where a body closes, the circuit is torn down behind it.
abbrev pub closed_state : Rules → List Event → State → ℕ → CircuitState → List CircuitCell → ℕ → State
closed_state rules ev s c x cells reason =
    torn_state rules (settled rules x.sent_count ev cells) (settled_state rules ev s c x cells) c reason
    ((settled_home rules ev s x cells).circuit)

abbrev pub give_back_state_of : Rules → List Event → State → ClaimNote → Option CircuitState → BackAnswer → State
give_back_state_of rules ev s note (Some x) BackAnswer.Settled = done_state rules ev s note.circ.0 x note.dir
give_back_state_of rules ev s note (Some x) (BackAnswer.Down reason) =
    closed_state rules ev s note.circ.0 x (kept_cells x.forth.claim_out) reason
give_back_state_of rules ev s note circuit answer = counted s

abbrev pub give_back_state : ℕ → Rules → (ℕ → List Event) → State → ClaimNote → Option ℕ → State
give_back_state name rules ev s note place =
    give_back_state_of rules (ev note.circ.0) s note (slot_at s.circuits note.circ.0)
    (give_back_result name rules ev s note place)
