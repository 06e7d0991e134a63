-- What one piece adds to a link, read cell by cell.
use Rattle.std.proofs.Common.{ℕ, ◌≡◌, ◌+◌, ◌-◌, ◌≤◌, [], ◌∷◌, ◌++◌, List, length, take, drop, map, false, refl, sym, ap, ◌∙◌, arith, Some, None, All}
use Rattle.std.proofs.Math.Seq.{take-append-add, drop-append-add}
use Rattle.std.proofs.lemmas.List.Elements.{All-nil, All-cons}
use Rattle.tor_spec.specs.CellEncoding.{WireCell}
use Rattle.tor_spec.specs.CellReading.{Unread, with_cell, cell_size, cell_of, cell_at, first_size, first_of, wrong_start, later_reading, first_reading}
use Rattle.tor_spec.proofs.CellSizes.{cell_size-take, first_size-take, first_size_told}
use Rattle.tor_spec.proofs.WrongStarts.{wrong_start-append}
use Rattle.std.proofs.lemmas.List.{length-take-le, take-append-drop}
use Rattle.tor_spec.proofs.CellCuts.{cell_ended, first_ended}
use Rattle.tor_spec.proofs.CellPieces.{later-open, first_reading-some}
use Rattle.tor_spec.proofs.CellReadingSteps.{later_reading-none, later_reading-some, later_settled}
use Rattle.cell_codec.specs.declared.cell.Cell.{Cell}
use Rattle.cell_codec.specs.Cells.{wire_cell, IsWellFormed}
use Rattle.cell_codec.specs.Decoding.{ReadsCells, IsCutOff}

opened : (u : Unread) (bytes : List ℕ) → u.opening ≡ false → u.bytes ≡ bytes → u ≡ record { opening = false; bytes = bytes }
opened u bytes o b = cc2 (λ x y. record { opening = x; bytes = y }) o b
  where
    cc2 : {A B C : Type 0} (f : A → B → C) {a a' : A} {b b' : B} → a ≡ a' → b ≡ b' → f a b ≡ f a' b'
    cc2 f p q = rw (p, q) refl

-- A first cell and those read behind it.
pub reads_behind : (first : Cell) (bytes rest : List ℕ) (start pushed cells : List Cell)
    → IsWellFormed first → start ≡ [] → pushed ≡ start ++ first ∷ []
    → map wire_cell cells ≡ map wire_cell pushed ++ (later_reading bytes).cells → (later_reading bytes).left.bytes ≡ rest
    → (All IsWellFormed pushed → All IsWellFormed cells)
    → ReadsCells (with_cell (wire_cell first) (later_reading bytes)) cells rest
reads_behind first bytes rest start pushed cells formed empty push read tail each =
    let one : pushed ≡ first ∷ [] = push ∙ ap (λ l. l ++ first ∷ []) empty in
    record {
      read = read ∙ ap (λ l. map wire_cell l ++ (later_reading bytes).cells) one;
      tail = opened (later_reading bytes).left rest (later-open bytes) tail;
      settled = rw tail at (later_settled bytes);
      well_formed = each (rw one (All-cons IsWellFormed first [] formed (All-nil IsWellFormed)));
    }

-- Where no cell has ended, all is left.
pub reads_none : (a rest : List ℕ) (cells : List Cell) → cell_at a ≡ None → cells ≡ [] → rest ≡ a
    → ReadsCells (later_reading a) cells rest
reads_none a rest cells none empty all = rw (later_reading-none a none, empty, all) (record {
  read = refl;
  tail = refl;
  settled = none;
  well_formed = All-nil IsWellFormed;
})

-- The bytes of a cell that began in rest and ends in piece.
taken : (rest piece last : List ℕ) (n : ℕ) → length rest ≤ n → last ≡ take (n - length rest) piece
    → rest ++ last ≡ take n (rest ++ piece)
taken rest piece last n within cut =
    let size : length rest + (n - length rest) ≡ n = omega arith in
    ap (λ l. rest ++ l) cut ∙ sym (take-append-add rest piece (n - length rest)) ∙ ap (λ k. take k (rest ++ piece)) size

dropped : (rest piece tail : List ℕ) (n : ℕ) → length rest ≤ n → tail ≡ drop (n - length rest) piece
    → tail ≡ drop n (rest ++ piece)
dropped rest piece tail n within cut =
    let size : length rest + (n - length rest) ≡ n = omega arith in
    cut ∙ sym (drop-append-add rest piece (n - length rest)) ∙ ap (λ k. drop k (rest ++ piece)) size

pub cut_size : (rest piece last tail : List ℕ) (n : ℕ) → IsCutOff rest piece last tail n → cell_size (rest ++ piece) ≡ Some n
    → cell_size (rest ++ last) ≡ Some (length (rest ++ last))
cut_size rest piece last tail n cut size =
    rw (taken rest piece last n cut.begun cut.front) (cell_size-take (rest ++ piece) n size cut.ended)

pub first_cut_size : (rest piece last tail : List ℕ) (n : ℕ) → IsCutOff rest piece last tail n
    → first_size (rest ++ piece) ≡ Some n
    → first_size (rest ++ last) ≡ Some (length (rest ++ last))
first_cut_size rest piece last tail n cut size =
    rw (taken rest piece last n cut.begun cut.front) (first_size-take (rest ++ piece) n size cut.ended)

pub cut_reading : (rest piece last tail : List ℕ) (n : ℕ) (c : WireCell) → IsCutOff rest piece last tail n
    → cell_size (rest ++ piece) ≡ Some n
    → c ≡ cell_of (rest ++ last) → with_cell c (later_reading tail) ≡ later_reading (rest ++ piece)
cut_reading rest piece last tail n c cut size read =
    rw (read, taken rest piece last n cut.begun cut.front, dropped rest piece tail n cut.begun cut.back)
    (sym (later_reading-some (rest ++ piece) _ (cell_ended (rest ++ piece) n size cut.ended)))

pub first_cut_reading : (rest piece last tail : List ℕ) (n : ℕ) (c : WireCell) → IsCutOff rest piece last tail n
    → first_size (rest ++ piece) ≡ Some n
    → wrong_start (rest ++ piece) ≡ None → c ≡ first_of (rest ++ last)
    → with_cell c (later_reading tail) ≡ first_reading (rest ++ piece)
first_cut_reading rest piece last tail n c cut size start read =
    rw (read, taken rest piece last n cut.begun cut.front, dropped rest piece tail n cut.begun cut.back)
    (sym (first_reading-some (rest ++ piece) _ start (first_ended (rest ++ piece) n size cut.ended)))

-- A cell that ends shows its whole link's start.
pub cut_start : (rest piece last tail : List ℕ) (n : ℕ) → IsCutOff rest piece last tail n
    → first_size (rest ++ piece) ≡ Some n
    → wrong_start (rest ++ piece) ≡ None → wrong_start (rest ++ last) ≡ None
cut_start rest piece last tail n cut size start =
    let a = rest ++ piece in
    let told = (first_size_told a n size).1 in
    let long : length (take n a) ≡ n = length-take-le n a cut.ended in
    rw (taken rest piece last n cut.begun cut.front)
    (sym (wrong_start-append (take n a) (drop n a) (omega arith)) ∙ ap wrong_start (take-append-drop n a) ∙ start)
