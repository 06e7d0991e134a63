-- Reading a link piece after piece.
use Rattle.std.specs.Prelude.{ℕ, [], ◌∷◌, ◌++◌, List}
use Rattle.tor_spec.specs.CellReading.{Unread, Reading, with_piece, reading}

-- The cells that end in each piece, one piece after another, and what is left unread behind the last.
abbrev pub in_pieces : Unread → List (List ℕ) → Reading
in_pieces u [] = record { cells = []; left = u }
in_pieces u (piece ∷ pieces) = record {
  cells = (reading (with_piece u piece)).cells ++ (in_pieces (reading (with_piece u piece)).left pieces).cells;
  left = (in_pieces (reading (with_piece u piece)).left pieces).left;
}
