-- A link in pieces, and the cells that it begins with.
use Rattle.std.proofs.Common.{ℕ, ◌≡◌, [], ◌∷◌, ◌++◌, List, refl, sym, ap, ◌∙◌}
use Rattle.std.specs.List.{flat_map, concat, AllByRecursion}
use Rattle.std.proofs.lemmas.List.{append-nil}
use Rattle.tor_spec.specs.CellEncoding.{WireCell, encoding, first_encoding}
use Rattle.tor_spec.specs.CellReading.{link_open, link_start, Unread, Reading, with_piece, later_reading, first_reading, reading, reading_within, refusal, wrong_start, first_at, first_size}
use Rattle.tor_spec.specs.CellStream.{IsBytes, IsCell, IsFirstCell, whole, whole_first}
use Rattle.tor_spec.proofs.CellPieces.{reading-pieces, refusal-pieces, first_reading-some}
use Rattle.cell_laws.specs.Pieces.{in_pieces}
use Rattle.cell_laws.specs.Prefixes.{BeginsWith, OpensWith}
use Rattle.cell_laws.proofs.FirstCells.{whole_first_spelled, whole_first_longest, first_again, right_start_again}
use Rattle.cell_laws.proofs.Spellings.{whole_spelled, whole_longest, spelled_first}

-- Reading pieces is reading their join.
pieces_joined : (pieces : List (List ℕ)) (u : Unread) (piece : List ℕ)
    → in_pieces u (piece ∷ pieces) ≡ reading (with_piece u (piece ++ concat pieces))
pieces_joined [] u piece =
    let first = reading (with_piece u piece) in
    ap (λ cells. record { cells = cells; left = first.left }) (append-nil first.cells)
    ∙ ap (λ bytes. reading (with_piece u bytes)) (sym (append-nil piece))
pieces_joined (next ∷ pieces) u piece =
    let first = reading (with_piece u piece) in
    ap (λ (r : Reading). record { cells = first.cells ++ r.cells; left = r.left }) (pieces_joined pieces first.left next)
    ∙ sym (reading-pieces u piece (next ++ concat pieces))

pub later_pieces : (pieces : List (List ℕ)) → (in_pieces link_open pieces).cells ≡ whole (concat pieces)
unfolding whole reading later_reading reading_within
later_pieces [] = refl
later_pieces (piece ∷ pieces) = ap (λ r. r.cells) (pieces_joined pieces link_open piece)

pub first_pieces : (pieces : List (List ℕ)) → (in_pieces link_start pieces).cells ≡ whole_first (concat pieces)
unfolding whole_first reading first_reading wrong_start first_at first_size
first_pieces [] = refl
first_pieces (piece ∷ pieces) = ap (λ r. r.cells) (pieces_joined pieces link_start piece)

-- The piece that completes a wrong start is refused, and each later one.
pub pieces_refused : (pieces : List (List ℕ)) (piece : List ℕ)
    → refusal (with_piece (in_pieces link_start pieces).left piece) ≡ wrong_start (concat pieces ++ piece)
unfolding refusal
pieces_refused [] piece = refl
pieces_refused (first ∷ pieces) piece =
    ap (λ r. refusal (with_piece r.left piece)) (pieces_joined pieces link_start first)
    ∙ refusal-pieces link_start (first ++ concat pieces) piece

pub whole_begins : (bytes : List ℕ) → IsBytes bytes → BeginsWith bytes (whole bytes)
whole_begins bytes fits =
    let own = whole_spelled bytes fits in
    record { front = own.0; rest = own.1; cut = own.2; spelled = own.3 }

pub whole_first_opens : (bytes : List ℕ) → IsBytes bytes → OpensWith bytes (whole_first bytes)
whole_first_opens bytes fits =
    let own = whole_first_spelled bytes fits in
    record { front = own.front; rest = own.rest; cut = own.cut; spelled = own.spelled }

pub begun_is_read : (bytes : List ℕ) (cells : List WireCell) → BeginsWith bytes cells
    → (others : List WireCell) × (whole bytes ≡ cells ++ others)
begun_is_read bytes cells b = whole_longest bytes b.front b.rest cells b.cut b.spelled

pub opened_is_read : (bytes : List ℕ) (cells : List WireCell) → OpensWith bytes cells
    → (others : List WireCell) × (whole_first bytes ≡ cells ++ others)
opened_is_read bytes cells b =
    whole_first_longest bytes cells (record { front = b.front; rest = b.rest; cut = b.cut; spelled = b.spelled })

later_written : (cells : List WireCell) → AllByRecursion IsCell cells → (later_reading (flat_map encoding cells)).cells ≡ cells
unfolding later_reading reading_within
later_written cells each =
    ap (λ bytes. (later_reading bytes).cells) (sym (append-nil (flat_map encoding cells)))
    ∙ ap (λ r. r.cells) (spelled_first cells [] each)
    ∙ append-nil cells

-- What is written is read back.
pub written_later : (cells : List WireCell) → AllByRecursion IsCell cells → whole (flat_map encoding cells) ≡ cells
unfolding whole reading
written_later cells each = later_written cells each

pub written_first : (opening : WireCell) (cells : List WireCell) → IsFirstCell opening → AllByRecursion IsCell cells
    → whole_first (first_encoding opening ++ flat_map encoding cells) ≡ opening ∷ cells
unfolding whole_first reading
written_first opening cells is each =
    ap (λ r. r.cells)
    (first_reading-some _ _ (right_start_again opening (flat_map encoding cells) is)
    (first_again opening (flat_map encoding cells) is))
    ∙ ap (λ l. opening ∷ l) (later_written cells each)
