-- Kind 04, `take`: its fields, how they are read, and its answer.
use Rattle.std.specs.Prelude.{◌≡◌, ◌<◌, ℕ, ◌^◌, ◌++◌, List, [], ◌∷◌, length, Bool, true, false, Option, Some, None, nat_lt, if◌then◌else◌, drop}
use Rattle.std.specs.Int.{w64, from_be_bytes, to_be_bytes}
use Rattle.cell_codec.specs.declared.cell.Body.{Body}
use Rattle.cell_codec.specs.declared.cell.Body.TheVariants.{Fixed, Var}
use Rattle.cell_codec.specs.declared.cell.Cell.{Cell}
use Rattle.cell_codec.specs.Cells.{wire_cell}
use Rattle.tor_spec.specs.CellEncoding.{WireCell, is_variable, encoding}
use Rattle.tor_spec.specs.CellReading.{cell_at}
use Rattle.tor_spec.specs.CellStream.{IsCell}
use Rattle.tr_io.specs.declared.answers.TakeAnswer.{TakeAnswer}
use Rattle.tr_io.specs.declared.answers.TakeAnswer.TheVariants as Takes
use Rattle.tr_io.specs.declared.answers.Why.{Why}
use Rattle.tape.specs.Fronts.{FrontOf, record_and, less, field}
use Rattle.tape.specs.declared.record.Record.TheVariants.{Take}

-- Channel (8 bytes), and the cell as it lies on a link behind the link's first cell (tor-spec, "Cell format").
abbrev pub take_spelling : ℕ → WireCell → List ℕ
take_spelling chan cell = 4 ∷ (to_be_bytes w64 chan ++ encoding cell)

-- The relay's cell of a cell on the link. Where its payload has a variable length no place of the list is spare.
abbrev pub body_from : Bool → List ℕ → Body
body_from true payload = Var (record { items = payload; spare = 0 })
body_from false payload = Fixed payload

abbrev pub cell_from : WireCell → Cell
cell_from cell = record { circ = cell.circuit; command = cell.command; body = body_from (is_variable cell.command) cell.payload }

abbrev pub TakeFits : ℕ → Cell → Type 0
TakeFits chan cell = (chan < 2 ^ 64) × IsCell (wire_cell cell) × (cell ≡ cell_from (wire_cell cell))

abbrev pub front_with_cell : ℕ → Option (WireCell × List ℕ) → FrontOf
front_with_cell chan (Some found) = record_and (Take (record { 0 = chan }) (cell_from found.0)) found.1
front_with_cell chan None = less

unfoldable pub take_front : List ℕ → FrontOf
take_front fields =
    if nat_lt (length fields) 8 then less
    else front_with_cell (from_be_bytes w64 (field 0 8 fields)) (cell_at (drop 8 fields))

abbrev pub why_byte : Why → ℕ
why_byte Why.NoChannel = 0
why_byte Why.Padding = 1
why_byte Why.Opening = 2
why_byte Why.Link = 3
why_byte Why.Unknown = 4
why_byte Why.NoCircuit = 5

-- 00; 01 and why the cell is passed over (1 byte); or 02, the circuit (8) and the reason with which it is torn down (1).
abbrev pub take_bytes : TakeAnswer → List ℕ
take_bytes Takes.Queued = 4 ∷ 0 ∷ []
take_bytes (Takes.PassedOver why) = 4 ∷ 1 ∷ why_byte why ∷ []
take_bytes (Takes.Down circ reason) = 4 ∷ 2 ∷ (to_be_bytes w64 circ.0 ++ reason ∷ [])
take_bytes Takes.Memory = []
