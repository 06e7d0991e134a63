-- claim.
use Rattle.std.specs.Prelude.{ℕ, ◌+◌, zero, suc, nat_lt, is_none, min, List, [], ◌∷◌, length, map, if◌then◌else◌, Option, Some, None, take, drop}
use Rattle.tr_io.specs.declared.names.ClaimNote.{ClaimNote}
use Rattle.tr_io.specs.declared.names.Dir.{Dir}
use Rattle.tr_io.specs.declared.names.Dir.TheVariants.{Forth, Back}
use Rattle.circuit_model.specs.Events.{CircuitCell}
use Rattle.switch_model.specs.Limits.{claim_limit}
use Rattle.switch_model.specs.Names.{Way, circ_no}
use Rattle.switch_machine.specs.State.{WaitingCell, WayState, CircuitState, State, slot_at, with_slot}
use Rattle.switch_machine.specs.Machine.{counted, way_of_circuit}

abbrev pub way_at : Option CircuitState → Dir → Option WayState
way_at (Some x) dir = Some (way_of_circuit x dir)
way_at None dir = None

-- A direction of the switch.
abbrev pub way_in : State → Way → Option WayState
way_in s way = way_at (slot_at s.circuits way.circ) way.dir

-- The number of the body that a direction offers: the first that waits, where no claim is out.
abbrev pub first_number : List WaitingCell → Option ℕ
first_number [] = None
first_number (body ∷ more) = Some body.number

abbrev pub offered_by : Option WayState → Option ℕ
offered_by None = None
offered_by (Some way) = if is_none way.claim_out then first_number way.waiting_bodies else None

abbrev pub offered : State → Way → Option ℕ
offered s way = offered_by (way_in s way)

-- A direction with the number that it offers.
pub record Offer : Type 0 where
  pub way : Way
  pub number : ℕ

-- The better of two.
abbrev pub sooner : Option Offer → Way → Option ℕ → Option Offer
sooner best way None = best
sooner None way (Some n) = Some (record { way = way; number = n })
sooner (Some best) way (Some n) = if nat_lt n best.number then Some (record { way = way; number = n }) else Some best

-- The least number that the first circuits offer.
abbrev pub soonest_below : State → ℕ → Option Offer
soonest_below s zero = None
soonest_below s (suc c) =
    sooner (sooner (soonest_below s c) (record { circ = c; dir = Forth }) (offered s (record { circ = c; dir = Forth })))
    (record { circ = c; dir = Back }) (offered s (record { circ = c; dir = Back }))

abbrev pub soonest : State → Option Offer
soonest s = soonest_below s (length s.circuits)

abbrev pub waiting_cells : List WaitingCell → List CircuitCell
waiting_cells waiting_bodies = map (λ w. w.cell) waiting_bodies

-- The claim of a direction.
abbrev pub claim_note : ℕ → State → ℕ → Way → WayState → ClaimNote
claim_note name s worker way w = record {
  switch = name;
  claim = s.claims;
  worker = worker;
  circ = circ_no way.circ;
  dir = way.dir;
  first = w.claimed_count;
  count = min claim_limit (length w.waiting_bodies);
}

abbrev pub note_at : ℕ → State → ℕ → Way → Option WayState → Option ClaimNote
note_at name s worker way (Some w) = Some (claim_note name s worker way w)
note_at name s worker way None = None

abbrev pub claim_result_of : ℕ → State → ℕ → Option Offer → Option ClaimNote
claim_result_of name s worker None = None
claim_result_of name s worker (Some offer) = note_at name s worker offer.way (way_in s offer.way)

-- The note of the job that the worker gets, if some direction is ready.
abbrev pub claim_result : ℕ → State → ℕ → Option ClaimNote
claim_result name s worker = claim_result_of name s worker (soonest s)

-- The direction with its first bodies out.
abbrev pub claimed_way : ClaimNote → WayState → WayState
claimed_way note w = record {
  claimed_count = w.claimed_count + note.count;
  claim_out = Some (record { note = note; cells = waiting_cells (take note.count w.waiting_bodies) });
  waiting_bodies = drop note.count w.waiting_bodies;
}

abbrev pub with_way : CircuitState → Dir → WayState → CircuitState
with_way x Forth w = record x { forth = w }
with_way x Back w = record x { back = w }

abbrev pub claimed_circuit : ClaimNote → Option CircuitState → Option CircuitState
claimed_circuit note (Some x) = Some (with_way x note.dir (claimed_way note (way_of_circuit x note.dir)))
claimed_circuit note None = None

abbrev pub claim_state_by : State → Option ClaimNote → State
claim_state_by s None = counted s
claim_state_by s (Some note) = record (counted s) {
  claims = s.claims + 1;
  circuits = with_slot s.circuits note.circ.0 (claimed_circuit note (slot_at s.circuits note.circ.0));
}

-- The state behind it.
abbrev pub claim_state : ℕ → State → ℕ → State
claim_state name s worker = claim_state_by s (claim_result name s worker)
