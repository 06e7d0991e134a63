-- take keeps what a state stands for.
use Rattle.std.proofs.Common.{Bool, List, None, Option, Some, false, if◌then◌else◌, is_some, not, refl, subst, sym, true, ℕ, ◌&&◌, ◌==◌, ◌||◌, ◌∙◌, ◌∷◌, ◌≡◌}
use Rattle.cell_codec.specs.Cells.{IsWellFormed}
use Rattle.cell_codec.specs.declared.cell.Cell.{Cell}
use Rattle.switch_model.proofs.Common.{same-number}
use Rattle.switch_model.specs.Answers.Take.{is_for_circuit, is_link, is_padding}
use Rattle.switch_model.specs.History.Circuit.{events}
use Rattle.switch_model.specs.Names.{Leg, chan_no, circuit_cell}
use Rattle.switch_model.specs.Start.{SwitchStart}
use Rattle.tor_spec.specs.CellCommands.{asks_for_circuit}
use Rattle.tr_io.specs.declared.answers.TakeAnswer.{TakeAnswer}
use Rattle.tr_io.specs.declared.answers.TakeAnswer.TheVariants.{PassedOver}
use Rattle.tr_io.specs.declared.answers.Why.{Why}
use Rattle.tr_io.specs.declared.step.Step.{Step}
use Rattle.tr_io.specs.declared.step.Step.TheVariants.{Take}
use Rattle.switch_machine.proofs.Take.ByLeg.{IsKept, by-leg}
use Rattle.switch_machine.proofs.Take.FoundLeg.{IsFound, Whole, circuit-found, leg-found}
use Rattle.switch_machine.proofs.Take.Frees.{freed-is, frees, frees-none}
use Rattle.switch_machine.proofs.Take.PassedOver.{freed-kept, passed-by}
use Rattle.switch_machine.proofs.Take.Said.{take_said}
use Rattle.switch_machine.specs.Calls.Take.{found_leg, found_result, found_state, take_result, take_state, without_destroys}
use Rattle.switch_machine.specs.Machine.{counted, has_port, leg_at, leg_in}
use Rattle.switch_machine.specs.Stands.{Stands}
use Rattle.switch_machine.specs.Stands.Legs.{LiesOn}
use Rattle.switch_machine.specs.State.{ChannelState, CircuitState, LegState, State, slot_at, with_slot}

-- a cell for a circuit on a live channel, by the leg that has its CircID

abbrev AnswerKept : SwitchStart → State → List Step → ℕ → Cell → Option Leg → TakeAnswer → Type 0
AnswerKept start s h chan cell o a = IsKept start h chan cell (found_state start.rules (events start.rules h) s chan cell o a) a

abbrev FoundKept : SwitchStart → State → List Step → ℕ → Cell → Option Leg → Type 0
FoundKept start s h chan cell o = AnswerKept start s h chan cell o (found_result start.rules (events start.rules h) s
    (circuit_cell cell) o)

circuit-by : (start : SwitchStart) (s : State) (h : List Step) (chan c k : ℕ) (cell : Cell) (x : CircuitState) → Stands start s h
    →
    slot_at s.circuits c ≡ Some x → has_port chan cell.circ (slot_at x.legs k) ≡ true →
    FoundKept start s h chan cell (Some (record { circ = c; number = k }))
circuit-by start s h chan c k cell x st found on = rw found (by-leg start s h chan c k cell x (slot_at x.legs k) st found refl on)

freed-by : (start : SwitchStart) (s : State) (h : List Step) (chan : ℕ) (cell : Cell) (x : ChannelState) (d : Bool) →
    Stands start s h → slot_at s.channels chan ≡ Some x → (cell.command == 4) ≡ d → ((leg : Leg) →
    has_port chan cell.circ (leg_in s leg) ≡ false) →
    IsKept start h chan cell (if d then record (counted s) {
      channels = with_slot s.channels chan (Some
          (without_destroys cell.circ x));
    } else counted s) (PassedOver Why.NoCircuit)
freed-by start s h chan cell x true st found is none = λ right. freed-kept start s h chan cell Why.NoCircuit x st found is right
    (λ e. none)
freed-by start s h chan cell x false st found is none = λ right. passed-by start s h chan cell Why.NoCircuit st right (λ e.
    none) (λ m y has i. frees-none chan cell is m i)

leg-of : (start : SwitchStart) (s : State) (h : List Step) (chan : ℕ) (cell : Cell) (leg : Leg) → Stands start s h →
    has_port chan cell.circ (leg_in s leg) ≡ true → FoundKept start s h chan cell (Some leg)
leg-of start s h chan cell leg st on =
    let x = circuit-found chan cell.circ leg.number (slot_at s.circuits leg.circ) on in
    circuit-by start s h chan leg.circ leg.number cell x.0 st x.1 (subst (λ y. has_port chan cell.circ
    (leg_at y leg.number) ≡ true) x.1 on)

found-by : (start : SwitchStart) (s : State) (h : List Step) (chan : ℕ) (cell : Cell) (x : ChannelState) (o : Option Leg) →
    Stands start s h → slot_at s.channels chan ≡ Some x → IsFound s chan cell.circ Whole o → FoundKept start s h chan cell o
found-by start s h chan cell x None st found none = rw found (freed-by start s h chan cell x (cell.command == 4) st found refl
    (λ leg. none leg refl))
found-by start s h chan cell x (Some leg) st found on = leg-of start s h chan cell leg st on

-- any cell

-- the commands that a circuit takes are not of the other kinds
pub record IsOfCircuit (n : ℕ) : Type 0 where
  pub padding : is_padding n ≡ false
  pub opening : asks_for_circuit n ≡ false
  pub link : is_link n ≡ false

by-number : (n m : ℕ) → (n == m) ≡ true → IsOfCircuit m → IsOfCircuit n
by-number n m is own = subst IsOfCircuit (sym (same-number n m is)) own

for-by : (n : ℕ) (a b c d : Bool) → (n == 3) ≡ a → (n == 4) ≡ b → (n == 9) ≡ c → (n == 11) ≡ d → (a || (b || (c || d))) ≡ true →
    IsOfCircuit n
for-by n true b c d is3 is4 is9 is11 some = by-number n 3 is3 (record { padding = refl; opening = refl; link = refl })
for-by n false true c d is3 is4 is9 is11 some = by-number n 4 is4 (record { padding = refl; opening = refl; link = refl })
for-by n false false true d is3 is4 is9 is11 some = by-number n 9 is9 (record { padding = refl; opening = refl; link = refl })
for-by n false false false true is3 is4 is9 is11 some = by-number n 11 is11 (record {
  padding = refl;
  opening = refl;
  link =
      refl;
})
for-by n false false false false is3 is4 is9 is11 some = absurd cc

pub for-circuit : (n : ℕ) → is_for_circuit n ≡ true → IsOfCircuit n
for-circuit n some = for-by n (n == 3) (n == 4) (n == 9) (n == 11) refl refl refl refl some

no-destroy_by : (a b c d : Bool) → (a || (b || (c || d))) ≡ false → b ≡ false
no-destroy_by true b c d none = absurd cc
no-destroy_by false true c d none = absurd cc
no-destroy_by false false c d none = refl

-- one that is passed over whatever its CircID
differ : {b : Bool} → b ≡ true → b ≡ false → ⊥
differ is other = let both : true ≡ false = sym is ∙ other in cc

abbrev other_answer : Bool → Bool → Bool → TakeAnswer → TakeAnswer
other_answer is_pad opens links later =
    if is_pad then PassedOver Why.Padding else if opens then PassedOver Why.Opening else if links then PassedOver Why.Link else
    later

over-one : (start : SwitchStart) (s : State) (h : List Step) (chan : ℕ) (cell : Cell) (why : Why) → Stands start s h →
    (cell.command == 4) ≡ false → IsKept start h chan cell (counted s) (PassedOver why)
over-one start s h chan cell why st other = λ right. passed-by start s h chan cell why st right (λ is. absurd (differ is other))
    (λ m y has i. frees-none chan cell other m i)

over-by : (start : SwitchStart) (s : State) (h : List Step) (chan : ℕ) (cell : Cell) (is_pad opens links : Bool)
    → Stands start s h →
    (cell.command == 4) ≡ false →
    IsKept start h chan cell (counted s) (other_answer is_pad opens links (PassedOver Why.Unknown))
over-by start s h chan cell true opens links st other = over-one start s h chan cell Why.Padding st other
over-by start s h chan cell false true links st other = over-one start s h chan cell Why.Opening st other
over-by start s h chan cell false false true st other = over-one start s h chan cell Why.Link st other
over-by start s h chan cell false false false st other = over-one start s h chan cell Why.Unknown st other

-- on a channel that is gone lies no leg
off-by : (slots : List (Option ChannelState)) (chan id : ℕ) (l : LegState) (b : Bool) → (l.chan == chan) ≡ b →
    slot_at slots chan ≡ None → LiesOn slots (Some l) → (b && (l.id == id)) ≡ false
off-by slots chan id l true is gone lies =
    let here : is_some (slot_at slots chan) ≡ true = subst (λ n. is_some (slot_at slots n) ≡ true)
    (same-number l.chan chan is) lies in
    let none : is_some (slot_at slots chan) ≡ false = rw gone refl in
    absurd (differ here none)
off-by slots chan id l false is gone lies = refl

off-channel : (slots : List (Option ChannelState)) (chan id : ℕ) (y : Option LegState) → slot_at slots chan ≡ None →
    LiesOn slots y → has_port chan id y ≡ false
off-channel slots chan id None gone lies = refl
off-channel slots chan id (Some l) gone lies = off-by slots chan id l (l.chan == chan) refl gone lies

gone-channel : (chan : ℕ) (cell : Cell) (slots : List (Option ChannelState)) (m i : ℕ) (x : ChannelState) (b : Bool) →
    slot_at slots chan ≡ None → slot_at slots m ≡ Some x → frees chan cell m i ≡ b → b ≡ false
gone-channel chan cell slots m i x true gone found is =
    let it = freed-is chan cell m i is in
    let none : slot_at slots m ≡ None = subst (λ n. slot_at slots n ≡ None) it.on_channel gone in
    let both : Some x ≡ None = sym found ∙ none in absurd cc
gone-channel chan cell slots m i x false gone found is = refl

-- by the channel and by whether a circuit takes the command

abbrev found_answer : SwitchStart → State → List Step → ℕ → Cell → TakeAnswer
found_answer start s h chan cell = found_result start.rules (events start.rules h) s (circuit_cell cell)
    (found_leg s chan cell.circ)

abbrev kind_answer : Cell → TakeAnswer → TakeAnswer
kind_answer cell later = other_answer (is_padding cell.command) (asks_for_circuit cell.command) (is_link cell.command) later

abbrev any_answer : SwitchStart → State → List Step → ℕ → Cell → Option ChannelState → Bool → TakeAnswer
any_answer start s h chan cell x is_for =
    if not (is_some x) then PassedOver Why.NoChannel else kind_answer cell
    (if not is_for then PassedOver Why.Unknown else found_answer start s h chan cell)

taken-by : (start : SwitchStart) (s : State) (h : List Step) (chan : ℕ) (cell : Cell) (x : Option ChannelState) (is_for : Bool) →
    Stands start s h → slot_at s.channels chan ≡ x → is_for_circuit cell.command ≡ is_for →
    IsKept start h chan cell
    (if is_some x && is_for then found_state start.rules (events start.rules h) s chan cell (found_leg s chan cell.circ)
    (any_answer start s h chan cell x is_for) else counted s) (any_answer start s h chan cell x is_for)
taken-by start s h chan cell None is_for st found is = λ right.
    passed-by start s h chan cell Why.NoChannel st right (λ e leg. off-channel s.channels chan cell.circ (leg_in s leg) found
    (st.legs.lie leg))
    (λ m y has i. gone-channel chan cell s.channels m i y (frees chan cell m i) found has refl)
taken-by start s h chan cell (Some x) false st found is =
    over-by start s h chan cell (is_padding cell.command) (asks_for_circuit cell.command) (is_link cell.command) st
    (no-destroy_by (cell.command == 3) (cell.command == 4) (cell.command == 9) (cell.command == 11) is)
taken-by start s h chan cell (Some x) true st found is =
    let kind = for-circuit cell.command is in
    let o = found_leg s chan cell.circ in
    let same : kind_answer cell (found_answer start s h chan cell) ≡ found_answer start s h chan cell = rw (
      kind.padding,
      kind.opening,
      kind.link,
    ) refl in
    subst (AnswerKept start s h chan cell o) (sym same) (found-by start s h chan cell x o st found (leg-found s chan cell.circ))

pub take_kept : (start : SwitchStart) (s : State) (h : List Step) (chan : ℕ) (cell : Cell) → IsWellFormed cell → Stands start s h
    →
    Stands start (take_state start.rules (events start.rules h) s chan cell) (Take (chan_no chan) cell (take_result start.rules
    (events start.rules h) s chan cell) ∷ h)
take_kept start s h chan cell formed st =
    taken-by start s h chan cell (slot_at s.channels chan) (is_for_circuit cell.command) st refl refl (
      formed,
      take_said start s h chan cell st,
    )
