-- What comes of a cell that a channel brings.
use Rattle.std.proofs.Common.{◌≡◌, ℕ, ◌&&◌, not, is_some, Bool, true, false, if◌then◌else◌, List, Option, Some, None, refl, sym, ◌∙◌, ap, subst, ◌-◌, arith}
use Rattle.cell_codec.specs.declared.cell.Cell.{Cell}
use Rattle.circuit_model.specs.Events.{Event}
use Rattle.circuit_model.specs.Rules.{Rules}
use Rattle.tor_spec.specs.CellCommands.{asks_for_circuit}
use Rattle.tr_io.specs.declared.answers.TakeAnswer.{TakeAnswer}
use Rattle.tr_io.specs.declared.answers.TakeAnswer.TheVariants.{PassedOver}
use Rattle.tr_io.specs.declared.answers.Why.{Why}
use Rattle.switch_model.specs.Answers.Take.{is_padding, is_link, is_for_circuit}
use Rattle.switch_model.specs.Names.{circuit_cell}
use Rattle.switch_machine.specs.State.{ChannelState, CircuitState, State, slot_at}
use Rattle.switch_machine.specs.Machine.{counted, leg_in, has_port}
use Rattle.switch_machine.specs.Calls.Take.{found_leg, found_result, found_state, leg_result, circuit_state, take_result, take_state}
use Rattle.switch_machine.proofs.Take.FoundLeg.{IsFound, Whole, leg-found}
use Rattle.switch_machine.proofs.Take.Kept.{IsOfCircuit, for-circuit}
use Rattle.switch_core.specs.Picking.{first_leg_of}
use Rattle.switch_core.specs.Taking.{TakeCase, why_other, why_not_taken, closed_answer}

-- answers by whether memory was wanting

pub differ : TakeAnswer.Queued ≡ TakeAnswer.Memory → ⊥
differ is = cc

pub case_by : (a : TakeAnswer) (P Q R : Type 0) → (Q → R) → TakeCase a P Q → TakeCase a P R
case_by TakeAnswer.Memory P Q R more fact = fact
case_by TakeAnswer.Queued P Q R more fact = more fact
case_by (PassedOver why) P Q R more fact = more fact
case_by (TakeAnswer.Down circ reason) P Q R more fact = more fact

pub case_of : (a : TakeAnswer) (P Q : Type 0) → (a ≡ TakeAnswer.Memory → ⊥) → Q → TakeCase a P Q
case_of TakeAnswer.Memory P Q other fact = absurd (other refl)
case_of TakeAnswer.Queued P Q other fact = fact
case_of (PassedOver why) P Q other fact = fact
case_of (TakeAnswer.Down circ reason) P Q other fact = fact

pub fact_of : (a : TakeAnswer) (P Q : Type 0) → (a ≡ TakeAnswer.Memory → ⊥) → TakeCase a P Q → Q
fact_of TakeAnswer.Memory P Q other fact = absurd (other refl)
fact_of TakeAnswer.Queued P Q other fact = fact
fact_of (PassedOver why) P Q other fact = fact
fact_of (TakeAnswer.Down circ reason) P Q other fact = fact

closed-by_no_memory : (c reason : ℕ) (x : Option CircuitState) → closed_answer c reason x ≡ TakeAnswer.Memory → ⊥
closed-by_no_memory c reason None is = cc
closed-by_no_memory c reason (Some x) is = cc

-- a teardown is no want of memory
pub closed_no_memory : (c reason : ℕ) (x : Option CircuitState) (a : TakeAnswer) → a ≡ closed_answer c reason x
    → a ≡ TakeAnswer.Memory → ⊥
closed_no_memory c reason x a said is = closed-by_no_memory c reason x (sym said ∙ is)

-- a cell that is passed over before its CircID is looked at

abbrev why_kind : Bool → Bool → Bool → Bool → Option Why
why_kind pads opens links ours =
    if pads then Some Why.Padding else if opens then Some Why.Opening else if links then Some Why.Link else if not ours
    then Some Why.Unknown else None

abbrev kind_or : Bool → Bool → Bool → Bool → TakeAnswer → TakeAnswer
kind_or pads opens links ours later =
    if pads then PassedOver Why.Padding else if opens then PassedOver Why.Opening else if links then PassedOver Why.Link
    else if not ours then PassedOver Why.Unknown else later

same-why : (a b : Why) → Some a ≡ Some b → PassedOver a ≡ PassedOver b
same-why a b is = cc

kind-said : (pads opens links ours : Bool) (later : TakeAnswer) (why : Why) → why_kind pads opens links ours ≡ Some why
    → kind_or pads opens links ours later ≡ PassedOver why
kind-said true opens links ours later why is = same-why Why.Padding why is
kind-said false true links ours later why is = same-why Why.Opening why is
kind-said false false true ours later why is = same-why Why.Link why is
kind-said false false false false later why is = same-why Why.Unknown why is
kind-said false false false true later why is = cc

kind-later : (pads opens links ours : Bool) (later : TakeAnswer) → why_kind pads opens links ours ≡ None
    → kind_or pads opens links ours later ≡ later
kind-later true opens links ours later none = cc
kind-later false true links ours later none = cc
kind-later false false true ours later none = cc
kind-later false false false false later none = cc
kind-later false false false true later none = refl

kind-ours : (pads opens links ours : Bool) → why_kind pads opens links ours ≡ None → ours ≡ true
kind-ours true opens links ours none = cc
kind-ours false true links ours none = cc
kind-ours false false true ours none = cc
kind-ours false false false false none = cc
kind-ours false false false true none = refl

kind-none : (n : ℕ) → IsOfCircuit n → is_for_circuit n ≡ true → why_other n ≡ None
kind-none n kind ours = rw (kind.padding, kind.opening, kind.link, ours) refl

not-ours_by : (n : ℕ) (ours : Bool) (why : Why) → is_for_circuit n ≡ ours → why_other n ≡ Some why → ours ≡ false
not-ours_by n false why is passed = refl
not-ours_by n true why is passed = let none : why_other n ≡ None = kind-none n (for-circuit n is) is in cc

passed-said : (n : ℕ) (x : Option ChannelState) (later : TakeAnswer) (why : Why)
    → (if not (is_some x) then Some Why.NoChannel else why_other n) ≡ Some why →
    (if not (is_some x) then PassedOver Why.NoChannel
    else kind_or (is_padding n) (asks_for_circuit n) (is_link n) (is_for_circuit n) later) ≡ PassedOver why
passed-said n None later why is = same-why Why.NoChannel why is
passed-said n (Some x) later why is = kind-said (is_padding n) (asks_for_circuit n) (is_link n) (is_for_circuit n) later why is

passed-left : (s t : State) (n : ℕ) (x : Option ChannelState) (why : Why)
    → (if not (is_some x) then Some Why.NoChannel else why_other n) ≡ Some why
    → (if is_some x && is_for_circuit n then t else s) ≡ s
passed-left s t n None why is = refl
passed-left s t n (Some x) why is = rw (not-ours_by n (is_for_circuit n) why refl is) refl

pub passed_result : (rules : Rules) (ev : ℕ → List Event) (s : State) (chan : ℕ) (cell : Cell) (why : Why)
    → why_not_taken s chan cell.command ≡ Some why → PassedOver why ≡ take_result rules ev s chan cell
passed_result rules ev s chan cell why is =
    sym (passed-said cell.command (slot_at s.channels chan)
    (found_result rules ev s (circuit_cell cell) (found_leg s chan cell.circ)) why is)

pub passed_state : (rules : Rules) (ev : ℕ → List Event) (s : State) (chan : ℕ) (cell : Cell) (why : Why)
    → why_not_taken s chan cell.command ≡ Some why → counted s ≡ take_state rules ev s chan cell
passed_state rules ev s chan cell why is =
    sym (passed-left (counted s)
    (found_state rules ev s chan cell (found_leg s chan cell.circ) (take_result rules ev s chan cell)) cell.command
    (slot_at s.channels chan) why is)

-- one whose CircID is looked at

later-said : (n : ℕ) (x : Option ChannelState) (later : TakeAnswer)
    → (if not (is_some x) then Some Why.NoChannel else why_other n) ≡ None →
    (if not (is_some x) then PassedOver Why.NoChannel
    else kind_or (is_padding n) (asks_for_circuit n) (is_link n) (is_for_circuit n) later) ≡ later
later-said n None later none = cc
later-said n (Some x) later none = kind-later (is_padding n) (asks_for_circuit n) (is_link n) (is_for_circuit n) later none

later-left : (s t : State) (n : ℕ) (x : Option ChannelState)
    → (if not (is_some x) then Some Why.NoChannel else why_other n) ≡ None → (if is_some x && is_for_circuit n then t else s) ≡ t
later-left s t n None none = cc
later-left s t n (Some x) none = rw (kind-ours (is_padding n) (asks_for_circuit n) (is_link n) (is_for_circuit n) none) refl

ours-by : (n : ℕ) (x : Option ChannelState) → (if not (is_some x) then Some Why.NoChannel else why_other n) ≡ None
    → is_for_circuit n ≡ true
ours-by n None none = cc
ours-by n (Some x) none = kind-ours (is_padding n) (asks_for_circuit n) (is_link n) (is_for_circuit n) none

pub is_ours_then : (s : State) (chan n : ℕ) → why_not_taken s chan n ≡ None → is_for_circuit n ≡ true
is_ours_then s chan n none = ours-by n (slot_at s.channels chan) none

later_result : (rules : Rules) (ev : ℕ → List Event) (s : State) (chan : ℕ) (cell : Cell)
    → why_not_taken s chan cell.command ≡ None →
    take_result rules ev s chan cell ≡ found_result rules ev s (circuit_cell cell) (found_leg s chan cell.circ)
later_result rules ev s chan cell none =
    later-said cell.command (slot_at s.channels chan) (found_result rules ev s (circuit_cell cell) (found_leg s chan cell.circ))
    none

later_state : (rules : Rules) (ev : ℕ → List Event) (s : State) (chan : ℕ) (cell : Cell)
    → why_not_taken s chan cell.command ≡ None →
    take_state rules ev s chan cell ≡ found_state rules ev s chan cell (found_leg s chan cell.circ)
    (take_result rules ev s chan cell)
later_state rules ev s chan cell none =
    later-left (counted s) (found_state rules ev s chan cell (found_leg s chan cell.circ) (take_result rules ev s chan cell))
    cell.command (slot_at s.channels chan) none

-- no circuit has it

pub no_circuit_result : (rules : Rules) (ev : ℕ → List Event) (s : State) (chan : ℕ) (cell : Cell)
    → why_not_taken s chan cell.command ≡ None → found_leg s chan cell.circ ≡ None
    → PassedOver Why.NoCircuit ≡ take_result rules ev s chan cell
no_circuit_result rules ev s chan cell none gone =
    sym (later_result rules ev s chan cell none ∙ ap (found_result rules ev s (circuit_cell cell)) gone)

pub no_circuit_state : (rules : Rules) (ev : ℕ → List Event) (s t : State) (chan : ℕ) (cell : Cell)
    → why_not_taken s chan cell.command ≡ None → found_leg s chan cell.circ ≡ None →
    t ≡ found_state rules ev s chan cell None (PassedOver Why.NoCircuit) → t ≡ take_state rules ev s chan cell
no_circuit_state rules ev s t chan cell none gone is =
    is ∙ sym (later_state rules ev s chan cell none
    ∙ ap (λ o. found_state rules ev s chan cell o (take_result rules ev s chan cell)) gone)

-- a circuit's leg has it

pub on_leg_result : (rules : Rules) (ev : ℕ → List Event) (s : State) (chan : ℕ) (cell : Cell) (n : ℕ) (a : TakeAnswer)
    → why_not_taken s chan cell.command ≡ None → found_leg s chan cell.circ ≡ Some (first_leg_of n) →
    a ≡ leg_result rules (ev n) (first_leg_of n) (circuit_cell cell) (slot_at s.circuits n) → a ≡ take_result rules ev s chan cell
on_leg_result rules ev s chan cell n a none found is =
    is ∙ sym (later_result rules ev s chan cell none ∙ ap (found_result rules ev s (circuit_cell cell)) found)

pub on_leg_state : (rules : Rules) (ev : ℕ → List Event) (s t : State) (chan : ℕ) (cell : Cell) (n : ℕ) (a : TakeAnswer)
    → why_not_taken s chan cell.command ≡ None → found_leg s chan cell.circ ≡ Some (first_leg_of n) →
    a ≡ take_result rules ev s chan cell
    → t ≡ circuit_state rules ev s (first_leg_of n) (circuit_cell cell) (slot_at s.circuits n) a
    → t ≡ take_state rules ev s chan cell
on_leg_state rules ev s t chan cell n a none found said is =
    is
    ∙ ap (λ b. found_state rules ev s chan cell (Some (first_leg_of n)) b) said
    ∙ sym (later_state rules ev s chan cell none ∙ ap (λ o. found_state rules ev s chan cell o (take_result rules ev s chan cell))
    found)

pub has_it : (s : State) (chan id n : ℕ) → found_leg s chan id ≡ Some (first_leg_of n)
    → has_port chan id (leg_in s (first_leg_of n)) ≡ true
has_it s chan id n found = subst (IsFound s chan id Whole) found (leg-found s chan id)
