-- What a decoder keeps, and what it answers, in the words of a link's reading.
use Rattle.std.specs.Prelude.{ℕ, ◌≡◌, ◌≢◌, ◌-◌, ◌≤◌, [], ◌∷◌, ◌++◌, List, length, take, drop, map, All, true, false, Some, None}
use Rattle.std.specs.Int.{w16, to_be_bytes}
use Rattle.tor_spec.specs.CellReading.{Unread, Reading, cell_at, first_at, wrong_start, refusal}
use Rattle.cell_codec.specs.declared.cell.Cell.{Cell}
use Rattle.cell_codec.specs.declared.cell.DecodeFault.{DecodeFault}
use Rattle.cell_codec.specs.declared.cell.DecodeFault.TheVariants.{BadFirst, Short, Memory}
use Rattle.cell_codec.specs.declared.decoder.Stage.{Stage}
use Rattle.cell_codec.specs.declared.decoder.Stage.TheVariants.{Opening, Open, Refused}
use Rattle.cell_codec.specs.Cells.{wire_cell, IsWellFormed}

-- These are the cells of the reading, and the rest are the bytes left, in which no cell has ended.
pub record ReadsCells (r : Reading) (cells : List Cell) (rest : List ℕ) : Type 0 where
  pub read : map wire_cell cells ≡ r.cells
  pub tail : r.left ≡ record { opening = false; bytes = rest }
  pub settled : cell_at rest ≡ None
  pub well_formed : All IsWellFormed cells

-- How a cell of n bytes, that began in rest and ends in piece, is cut off: its last bytes, and the tail.
pub record IsCutOff (rest piece last tail : List ℕ) (n : ℕ) : Type 0 where
  pub begun : length rest ≤ n
  pub ended : n ≤ length (rest ++ piece)
  pub front : last ≡ take (n - length rest) piece
  pub back : tail ≡ drop (n - length rest) piece

-- A refused link keeps the three bytes that show why.
abbrev pub unread_of : Stage → List ℕ → Unread
unread_of Opening rest = record { opening = true; bytes = rest }
unread_of Open rest = record { opening = false; bytes = rest }
unread_of (Refused circ command) rest = record { opening = true; bytes = to_be_bytes w16 circ ++ command ∷ [] }

-- No cell has ended in what is kept.
abbrev pub IsSettled : Stage → List ℕ → Type 0
IsSettled Opening rest = (wrong_start rest ≡ None) × (first_at rest ≡ None)
IsSettled Open rest = cell_at rest ≡ None
IsSettled (Refused circ command) rest = (rest ≡ []) × (wrong_start (to_be_bytes w16 circ ++ command ∷ []) ≡ Some (circ, command))

-- BadFirst tells the link's wrong start. Memory may be wanting where the link isn't refused.
abbrev pub TellsRefusal : DecodeFault → Unread → Type 0
TellsRefusal (BadFirst circ command) link = refusal link ≡ Some (circ, command)
TellsRefusal Short link = ⊥
TellsRefusal Memory link = refusal link ≡ None

-- Bytes of a cell that hasn't ended are left, and the link isn't refused.
pub record IsUnfinished (link : Unread) : Type 0 where
  pub bytes : link.bytes ≢ []
  pub accepted : refusal link ≡ None
