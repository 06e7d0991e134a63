-- How a cell lies on a link (tor-spec, "Cell format"; link protocol 4). Bytes are numbers below 256.
use Rattle.std.specs.Prelude.{ℕ, ◌-◌, ◌∷◌, ◌++◌, List, length, replicate, Bool, ◌==◌, ◌||◌, nat_le, if◌then◌else◌}
use Rattle.std.specs.Int.{w16, w32, to_be_bytes}
use Rattle.tor_spec.specs.CellCommands.{versions_command, vpadding_command}

-- A cell's fields: the CircID, the command and the payload.
pub record WireCell : Type 0 where
  pub circuit : ℕ
  pub command : ℕ
  pub payload : List ℕ

-- VERSIONS, and every command from VPADDING on, have a payload of variable length.
abbrev pub is_variable : ℕ → Bool
is_variable command = (command == versions_command) || nat_le vpadding_command command

-- CircID (4 bytes), command (1), for a variable-length cell the length (2), and the payload;
-- numbers are big-endian.
abbrev pub encoding : WireCell → List ℕ
encoding c = to_be_bytes w32 c.circuit ++ c.command ∷
    (if is_variable c.command then to_be_bytes w16 (length c.payload) ++ c.payload else c.payload)

-- The first cell of a link, VERSIONS, has a CircID of 2 bytes (tor-spec, "Negotiating versions").
abbrev pub first_encoding : WireCell → List ℕ
first_encoding c = to_be_bytes w16 c.circuit ++ c.command ∷ (to_be_bytes w16 (length c.payload) ++ c.payload)

-- A payload of fixed length, 509 bytes, that begins with these fields: what stands behind them is zero.
abbrev pub fixed_payload : List ℕ → List ℕ
fixed_payload fields = fields ++ replicate (509 - length fields) 0
