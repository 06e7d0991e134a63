-- What comes of a cell that a channel brings, where each circuit has one leg.
use Rattle.std.specs.Prelude.{ℕ, ◌≡◌, ◌+◌, ⊤, true, not, length, is_some, if◌then◌else◌, Option, Some, None}
use Rattle.tor_spec.specs.CellCommands.{asks_for_circuit}
use Rattle.tr_io.specs.declared.answers.TakeAnswer.{TakeAnswer}
use Rattle.tr_io.specs.declared.answers.Why.{Why}
use Rattle.circuit_model.specs.Events.{CircuitCell}
use Rattle.switch_model.specs.Names.{circ_no}
use Rattle.switch_model.specs.Answers.Take.{is_padding, is_link, is_for_circuit}
use Rattle.switch_machine.specs.State.{CircuitState, State, slot_at}
use Rattle.switch_machine.specs.Machine.{counted, leg_in, has_port}
use Rattle.switch_machine.specs.Calls.Take.{forth_waits, kept_length, queued_forth_state}
use Rattle.switch_core.specs.Picking.{first_leg_of}

-- The first fact where memory was wanting, else the second.
abbrev pub TakeCase : TakeAnswer → Type 0 → Type 0 → Type 0
TakeCase TakeAnswer.Memory P Q = P
TakeCase TakeAnswer.Queued P Q = Q
TakeCase (TakeAnswer.PassedOver why) P Q = Q
TakeCase (TakeAnswer.Down circ reason) P Q = Q

-- Why a cell with this command is passed over, if it is for no circuit.
abbrev pub why_other : ℕ → Option Why
why_other command =
    if is_padding command then Some Why.Padding
    else if asks_for_circuit command then Some Why.Opening
    else if is_link command then Some Why.Link
    else if not (is_for_circuit command) then Some Why.Unknown
    else None

-- Why it is passed over before its CircID is looked at, if it is.
abbrev pub why_not_taken : State → ℕ → ℕ → Option Why
why_not_taken s chan command = if not (is_some (slot_at s.channels chan)) then Some Why.NoChannel else why_other command

-- A cell that isn't passed over came on the CircID of a circuit's leg towards the client.
abbrev pub IsOnLeg : TakeAnswer → State → ℕ → ℕ → Type 0
IsOnLeg TakeAnswer.Queued s chan id = (c : ℕ) × (has_port chan id (leg_in s (first_leg_of c)) ≡ true)
IsOnLeg (TakeAnswer.Down circ reason) s chan id = has_port chan id (leg_in s (first_leg_of circ.0)) ≡ true
IsOnLeg (TakeAnswer.PassedOver why) s chan id = ⊤
IsOnLeg TakeAnswer.Memory s chan id = ⊥

-- The answer where a circuit, if it is live, is torn down for a reason.
abbrev pub closed_answer : ℕ → ℕ → Option CircuitState → TakeAnswer
closed_answer c reason (Some x) = TakeAnswer.Down (circ_no c) reason
closed_answer c reason None = TakeAnswer.PassedOver Why.NoCircuit

-- The answer where one more body waits forth on a circuit, if it is live.
abbrev pub queued_answer : Option CircuitState → TakeAnswer
queued_answer (Some x) = TakeAnswer.Queued
queued_answer None = TakeAnswer.PassedOver Why.NoCircuit

abbrev pub forth_queued_state : State → ℕ → CircuitCell → Option CircuitState → State
forth_queued_state s c cell (Some x) = queued_forth_state s c cell x
forth_queued_state s c cell None = counted s

-- A circuit on which one more body waits.
abbrev pub slot_with_body : ℕ → CircuitCell → Option CircuitState → Option CircuitState
slot_with_body number cell (Some x) = Some (forth_waits number cell x)
slot_with_body number cell None = None

-- How many bodies of a circuit wait or are out.
abbrev pub body_count : Option CircuitState → ℕ
body_count (Some x) = kept_length x.forth.claim_out + length x.forth.waiting_bodies
body_count None = 0
