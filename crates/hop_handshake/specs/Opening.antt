-- What a cell that asks for a circuit comes to, under a relay's handshake and its Y: the cell that
-- answers, on the same CircID, and the circuit's keys. The key of the padding goes along.
use Rattle.std.specs.Prelude.{◌≡◌, ℕ, List, length, take, ◌==◌, nat_le, if◌then◌else◌, Option, Some, None, IsSome, option_and_then}
use Rattle.crypto_spec.specs.KeyDerivation.{kdf_tor}
use Rattle.kdf_tor.specs.HopKeys.{layer_keys_of}
use Rattle.cell_codec.specs.declared.cell.Cell.{Cell}
use Rattle.cell_codec.specs.declared.cell.Body.TheVariants.{Fixed}
use Rattle.cell_codec.specs.Cells.{payload_of}
use Rattle.tor_spec.specs.CellCommands.{destroy_command, create_fast_command, created_fast_command, create2_command, created2_command}
use Rattle.tor_spec.specs.Extend.{handshake_request}
use Rattle.tor_spec.specs.Reasons.{destroy_protocol}
use Rattle.hop_handshake.specs.declared.opening.Opening.{Opening}
use Rattle.hop_handshake.specs.Payloads.{created_fast_payload, created2_payload, destroy_payload}
use Rattle.hop_handshake.specs.Answers.{HandshakeAnswer, AnswerRule}

-- A fixed cell.
abbrev pub cell_with : ℕ → ℕ → List ℕ → Cell
cell_with circuit command payload = record { circ = circuit; command = command; body = Fixed payload }

-- A refusal: DESTROY with PROTOCOL (tor-spec, "Tearing down circuits"), and no keys.
abbrev pub refusal : Option (List ℕ) → ℕ → Opening
refusal pad circuit = record {
  reply = cell_with circuit destroy_command (destroy_payload destroy_protocol);
  keys = None;
  pad = pad;
}

-- CREATED_FAST, to the client's X under the relay's Y (tor-spec, "CREATE_FAST/CREATED_FAST cells").
abbrev pub fast_opening : Option (List ℕ) → ℕ → List ℕ → List ℕ → Opening
fast_opening pad circuit x y = record {
  reply = cell_with circuit created_fast_command (created_fast_payload y (kdf_tor x y).kh);
  keys = Some (layer_keys_of (kdf_tor x y));
  pad = pad;
}

-- CREATED2 with a handshake's answer (tor-spec, "CREATE and CREATED cells").
abbrev pub accepted_opening : Option (List ℕ) → ℕ → HandshakeAnswer → Opening
accepted_opening pad circuit answer = record {
  reply = cell_with circuit created2_command (created2_payload answer.reply);
  keys = Some answer.keys;
  pad = pad;
}

-- A bad handshake is refused, and so is an answer of more than 496 bytes: the hop before hands it on
-- in an EXTENDED2, which has room for no more behind HLEN (tor-spec, "EXTEND and EXTENDED cells").
abbrev pub answered_opening : Option (List ℕ) → ℕ → Option HandshakeAnswer → Opening
answered_opening pad circuit (Some answer) =
    if nat_le (length answer.reply) 496 then accepted_opening pad circuit answer else refusal pad circuit
answered_opening pad circuit None = refusal pad circuit

-- What the handshake answers to HTYPE and HDATA.
abbrev pub answer_to_request : AnswerRule → List ℕ → ℕ × List ℕ → Option HandshakeAnswer
answer_to_request rule y request = rule request.0 request.1 y

-- CREATE2 is answered as the handshake answers the client's half in front of its payload. Where the
-- payload ends within HDATA it is refused.
abbrev pub create2_opening : AnswerRule → List ℕ → Option (List ℕ) → ℕ → List ℕ → Opening
create2_opening rule y pad circuit payload =
    answered_opening pad circuit (option_and_then (answer_to_request rule y) (handshake_request payload))

-- CREATE_FAST is answered by the X in front of its payload, CREATE2 by the handshake. CREATE is
-- refused, since its handshake is obsolete.
unfoldable pub opening_under : AnswerRule → List ℕ → Option (List ℕ) → Cell → Opening
opening_under rule y pad cell =
    if cell.command == create_fast_command
    then fast_opening pad cell.circ (take 20 (payload_of cell.body)) y
    else (if cell.command == create2_command
    then create2_opening rule y pad cell.circ (payload_of cell.body)
    else refusal pad cell.circ)

-- The cell is a CREATE2 with the whole of the client's half. No other is put to the handshake.
pub record IsPutToHandshake (cell : Cell) : Type 0 where
  pub command : cell.command ≡ create2_command
  pub whole : IsSome (handshake_request (payload_of cell.body))
