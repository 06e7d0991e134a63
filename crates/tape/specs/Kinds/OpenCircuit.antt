-- Kinds 03 and 0f, `open_circuit` without and with a key of the padding: their fields, how they are read, what the
-- cell comes to, and their answer.
use Rattle.std.specs.Prelude.{◌≡◌, ◌<◌, ℕ, ◌^◌, ◌++◌, IfSome, List, [], ◌∷◌, length, Option, Some, None, ◌==◌, nat_lt, if◌then◌else◌, take, drop, slice_index}
use Rattle.std.specs.Int.{w32, w64, from_be_bytes, to_be_bytes}
use Rattle.tor_spec.specs.CellCommands.{create_command, create_fast_command, create2_command}
use Rattle.tape.specs.declared.record.CircuitRequest.{CircuitRequest}
use Rattle.tape.specs.declared.record.CreateCommand.{CreateCommand}
use Rattle.tape.specs.declared.record.CreateCommand.TheVariants.{Create, CreateFast, Create2}
use Rattle.tape.specs.declared.record.Record.{Record}
use Rattle.tape.specs.declared.record.Record.TheVariants.{OpenCircuit}
use Rattle.tr_io.specs.declared.answers.OpenAnswer.{OpenAnswer}
use Rattle.tr_io.specs.declared.answers.OpenAnswer.TheVariants as Opens
use Rattle.tr_io.specs.declared.answers.OpenRefusal.{OpenRefusal}
use Rattle.tr_io.specs.declared.answers.OpenRefusal.TheVariants as Refusals
use Rattle.hop_handshake.specs.declared.opening.Opening.{Opening}
use Rattle.hop_handshake.specs.Fast.{fast_rule}
use Rattle.hop_handshake.specs.Opening.{cell_with, opening_under}
use Rattle.tape.specs.Fronts.{FrontOf, record_and, less, no_record, field}

-- An opening's kind, and the key of the padding where it has one.
abbrev pub opening_kind : Option (List ℕ) → ℕ
opening_kind None = 3
opening_kind (Some pad) = 15

abbrev pub command_byte : CreateCommand → ℕ
command_byte Create = create_command
command_byte CreateFast = create_fast_command
command_byte Create2 = create2_command

abbrev pub pad_bytes : Option (List ℕ) → List ℕ
pad_bytes None = []
pad_bytes (Some pad) = pad

-- Channel (8 bytes), Y (20), the key of the padding (16) where there is one, and a fixed cell: CircID (4), the
-- command (1), the payload (509).
abbrev pub open_circuit_spelling : ℕ → List ℕ → Option (List ℕ) → CircuitRequest → List ℕ
open_circuit_spelling chan y pad request =
    opening_kind pad
    ∷ (to_be_bytes w64 chan
    ++ (y ++ (pad_bytes pad ++ (to_be_bytes w32 request.id ++ command_byte request.command ∷ request.payload))))

abbrev pub OpenCircuitFits : ℕ → List ℕ → Option (List ℕ) → CircuitRequest → Type 0
OpenCircuitFits chan y pad request =
    (chan < 2 ^ 64) × (length y ≡ 20) × IfSome pad (λ bytes. length bytes ≡ 16) × (request.id < 2 ^ 32)
    × (length request.payload ≡ 509)

-- The command that asks for a circuit, by its byte.
abbrev pub command_of : ℕ → Option CreateCommand
command_of byte =
    if byte == create_command then Some Create
    else (if byte == create_fast_command then Some CreateFast
    else (if byte == create2_command then Some Create2 else None))

-- What a fixed cell that asks for a circuit says.
abbrev pub request_of : CreateCommand → List ℕ → CircuitRequest
request_of command cell =
    record { id = from_be_bytes w32 (field 0 4 cell); command = command; payload = field 5 509 cell }

-- An opening by its first fields, channel and Y, the key of its padding, and its cell.
abbrev pub open_circuit_record : List ℕ → Option (List ℕ) → CreateCommand → List ℕ → Record
open_circuit_record head pad command cell =
    OpenCircuit (record { 0 = from_be_bytes w64 (field 0 8 head) }) (field 8 20 head) pad (request_of command cell)

abbrev pub front_with_command : List ℕ → Option (List ℕ) → Option CreateCommand → List ℕ → FrontOf
front_with_command head pad (Some command) cell =
    if nat_lt (length cell) 514 then less
    else record_and (open_circuit_record head pad command cell) (drop 514 cell)
front_with_command head pad None cell = no_record

unfoldable pub opening_front : List ℕ → Option (List ℕ) → List ℕ → FrontOf
opening_front head pad cell =
    if nat_lt (length cell) 5 then less
    else front_with_command head pad (command_of (slice_index cell 4)) cell

-- Kind 03: without a key of the padding.
abbrev pub open_circuit_front : List ℕ → FrontOf
open_circuit_front fields = opening_front (take 28 fields) None (drop 28 fields)

-- Kind 0f: with one.
abbrev pub padded_circuit_front : List ℕ → FrontOf
padded_circuit_front fields = opening_front (take 28 fields) (Some (field 28 16 fields)) (drop 44 fields)

-- What a cell that asks for a circuit comes to under the relay's Y, where CREATE2 carries the
-- handshake of CREATE_FAST.
abbrev pub opening_for : CircuitRequest → List ℕ → Option (List ℕ) → Opening
opening_for request y pad = opening_under fast_rule y pad (cell_with request.id (command_byte request.command) request.payload)

abbrev pub refusal_bytes : OpenRefusal → List ℕ
refusal_bytes Refusals.BadId = 1 ∷ []
refusal_bytes Refusals.InUse = 2 ∷ []
refusal_bytes (Refusals.Full count) = 3 ∷ to_be_bytes w32 count
refusal_bytes Refusals.BadHandshake = 4 ∷ []
refusal_bytes Refusals.NoChannel = 5 ∷ []

-- An answer has the kind of its record: 00 and the circuit (8 bytes), or why the opening is refused.
abbrev pub open_bytes : ℕ → OpenAnswer → List ℕ
open_bytes kind (Opens.Opened circ) = kind ∷ 0 ∷ to_be_bytes w64 circ.0
open_bytes kind (Opens.Refused refusal) = kind ∷ refusal_bytes refusal
open_bytes kind Opens.Memory = []
