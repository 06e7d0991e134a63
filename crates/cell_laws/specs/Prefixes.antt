-- Which cells a link's bytes begin with.
use Rattle.std.specs.Prelude.{ℕ, ◌≡◌, ◌++◌, List}
use Rattle.tor_spec.specs.CellEncoding.{WireCell}
use Rattle.tor_spec.specs.CellStream.{Spells, SpellsFirst}

-- A prefix of the bytes spells these cells.
pub record BeginsWith (bytes : List ℕ) (cells : List WireCell) : Type 0 where
  pub front : List ℕ
  pub rest : List ℕ
  pub cut : bytes ≡ front ++ rest
  pub spelled : Spells front cells

-- The same where the first of the cells opens the link.
pub record OpensWith (bytes : List ℕ) (cells : List WireCell) : Type 0 where
  pub front : List ℕ
  pub rest : List ℕ
  pub cut : bytes ≡ front ++ rest
  pub spelled : SpellsFirst front cells
