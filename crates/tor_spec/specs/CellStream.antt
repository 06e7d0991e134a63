-- Which bytes spell which cells (tor-spec, "Cell format" and "Negotiating versions").
use Rattle.std.specs.Prelude.{ℕ, ◌≡◌, ◌<◌, ◌^◌, [], ◌∷◌, ◌++◌, List, length, get_or, false}
use Rattle.std.specs.List.{flat_map, AllByRecursion}
use Rattle.tor_spec.specs.CellEncoding.{WireCell, is_variable, encoding, first_encoding}
use Rattle.tor_spec.specs.CellReading.{link_open, link_start, with_piece, reading}

abbrev pub IsBytes : List ℕ → Type 0
IsBytes bytes = (i : ℕ) → get_or bytes i 0 < 256

-- A cell as a link carries it: a CircID of 4 bytes, a command of one, and 509 bytes of payload,
-- or in a cell of variable length at most 65,535.
pub record IsCell (c : WireCell) : Type 0 where
  pub circuit : c.circuit < 2 ^ 32
  pub command : c.command < 256
  pub bytes : IsBytes c.payload
  pub fixed : is_variable c.command ≡ false → length c.payload ≡ 509
  pub variable : length c.payload < 2 ^ 16

-- The cell that opens a link: VERSIONS on CircID 0.
pub record IsFirstCell (c : WireCell) : Type 0 where
  pub circuit : c.circuit ≡ 0
  pub command : c.command ≡ 7
  pub bytes : IsBytes c.payload
  pub variable : length c.payload < 2 ^ 16

-- The bytes are the encodings of these cells, one after another.
pub record Spells (bytes : List ℕ) (cells : List WireCell) : Type 0 where
  pub text : bytes ≡ flat_map encoding cells
  pub each : AllByRecursion IsCell cells

-- The same where the first of the cells opens the link.
abbrev pub SpellsFirst : List ℕ → List WireCell → Type 0
SpellsFirst bytes [] = bytes ≡ []
SpellsFirst bytes (first ∷ cells) =
    IsFirstCell first × (more : List ℕ) × (bytes ≡ first_encoding first ++ more) × Spells more cells

-- The longest list of cells that a prefix of the bytes spells.
unfoldable pub whole : List ℕ → List WireCell
whole bytes = (reading (with_piece link_open bytes)).cells

unfoldable pub whole_first : List ℕ → List WireCell
whole_first bytes = (reading (with_piece link_start bytes)).cells
