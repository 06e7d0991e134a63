-- A cell as the relay handles it, and the cell of the link that it is.
use Rattle.std.specs.Prelude.{◌≡◌, ◌≤◌, ℕ, List, length, Bool, true, false}
use Rattle.cell_codec.specs.declared.cell.Body.{Body}
use Rattle.cell_codec.specs.declared.cell.Body.TheVariants.{Fixed, Var}
use Rattle.cell_codec.specs.declared.cell.Cell.{Cell}
use Rattle.tor_spec.specs.CellEncoding.{WireCell, is_variable}

-- The payload's bytes.
abbrev pub payload_of : Body → List ℕ
payload_of (Fixed bytes) = bytes
payload_of (Var bytes) = bytes.items

abbrev pub is_var : Body → Bool
is_var (Fixed _) = false
is_var (Var _) = true

abbrev pub wire_cell : Cell → WireCell
wire_cell c = record { circuit = c.circ; command = c.command; payload = payload_of c.body }

-- The body is variable exactly where the command is, and its length fits two bytes.
pub record IsWellFormed (c : Cell) : Type 0 where
  pub kind : is_var c.body ≡ is_variable c.command
  pub size : length (payload_of c.body) ≤ 65535
