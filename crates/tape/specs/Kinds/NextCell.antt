-- Kind 08, `next_cell`: its fields, how they are read, and its answer.
use Rattle.std.specs.Prelude.{◌<◌, ℕ, ◌^◌, ◌++◌, List, [], ◌∷◌, length, Option, Some, None, nat_lt, if◌then◌else◌, drop}
use Rattle.std.specs.Int.{w64, from_be_bytes, to_be_bytes}
use Rattle.tape.specs.declared.record.Record.TheVariants.{NextCell}
use Rattle.cell_codec.specs.declared.cell.Cell.{Cell}
use Rattle.cell_codec.specs.Cells.{wire_cell}
use Rattle.tor_spec.specs.CellEncoding.{encoding}
use Rattle.tape.specs.Fronts.{FrontOf, record_and, less, field}

-- Channel (8 bytes), tick (8).
abbrev pub next_cell_spelling : ℕ → ℕ → List ℕ
next_cell_spelling chan tick = 8 ∷ (to_be_bytes w64 chan ++ to_be_bytes w64 tick)

abbrev pub NextCellFits : ℕ → ℕ → Type 0
NextCellFits chan tick = (chan < 2 ^ 64) × (tick < 2 ^ 64)

unfoldable pub next_cell_front : List ℕ → FrontOf
next_cell_front fields =
    if nat_lt (length fields) 16 then less
    else record_and (NextCell (record { 0 = from_be_bytes w64 (field 0 8 fields) }) (from_be_bytes w64 (field 8 8 fields)))
    (drop 16 fields)

-- 01 and the cell's bytes, or 00.
abbrev pub next_bytes : Option Cell → List ℕ
next_bytes (Some cell) = 8 ∷ 1 ∷ encoding (wire_cell cell)
next_bytes None = 8 ∷ 0 ∷ []
