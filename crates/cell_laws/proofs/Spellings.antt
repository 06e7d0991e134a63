-- The reading of a link's later cells gives what the bytes spell.
use Rattle.std.proofs.Common.{ℕ, zero, suc, ◌≡◌, ◌≤◌, [], ◌∷◌, ◌++◌, List, length, refl, sym, ap, ◌∙◌, arith, append_assoc, Option, Some, None}
use Rattle.std.specs.List.{flat_map, AllByRecursion}
use Rattle.tor_spec.specs.CellEncoding.{WireCell, encoding}
use Rattle.tor_spec.specs.CellReading.{Reading, with_cell, cell_at, later_reading, reading}
use Rattle.tor_spec.specs.CellStream.{IsBytes, IsCell, Spells, whole}
use Rattle.tor_spec.proofs.CellCuts.{cell_at-shorter}
use Rattle.tor_spec.proofs.CellReadingSteps.{nothing_at, later_reading-none, later_reading-some}
use Rattle.cell_laws.proofs.Encodings.{cell_again}
use Rattle.cell_laws.proofs.Found.{cell_found}

-- The reading's cells spell the bytes, up to those that it leaves.
pub record SpelledBy (bytes : List ℕ) (r : Reading) : Type 0 where
  pub text : bytes ≡ flat_map encoding r.cells ++ r.left.bytes
  pub each : AllByRecursion IsCell r.cells

-- Cells in front of a reading.
abbrev pub with_cells : List WireCell → Reading → Reading
with_cells cells r = record { cells = cells ++ r.cells; left = r.left }

-- Whatever cells a prefix spells are the first that are read: so no other list is longer.
pub spelled_first : (cells : List WireCell) (more : List ℕ) → AllByRecursion IsCell cells
    → later_reading (flat_map encoding cells ++ more) ≡ with_cells cells (later_reading more)
spelled_first [] more each = refl
spelled_first (c ∷ cells) more each =
    ap later_reading (append_assoc (encoding c) (flat_map encoding cells) more)
    ∙ later_reading-some _ _ (cell_again c (flat_map encoding cells ++ more) each.0)
    ∙ ap (with_cell c) (spelled_first cells more each.1)

later_spelled-at : (n : ℕ) (a : List ℕ) → IsBytes a → length a ≤ suc n
    → ((b : List ℕ) → IsBytes b → length b ≤ n → SpelledBy b (later_reading b))
    → (o : Option (WireCell × List ℕ)) → cell_at a ≡ o → SpelledBy a (later_reading a)
later_spelled-at n a fits h later None e = rw (later_reading-none a e) (record { text = refl; each = tt })
later_spelled-at n a fits h later (Some found) e =
    let less = cell_at-shorter a found e in
    let own = cell_found a found fits e in
    let rest = later found.1 own.bytes (omega arith) in
    rw (later_reading-some a found e) (record {
      text = own.text ∙ ap (λ b. encoding found.0 ++ b) rest.text ∙ sym (append_assoc (encoding found.0) _ _);
      each = (own.cell, rest.each);
    })

later_spelled-within : (n : ℕ) (a : List ℕ) → IsBytes a → length a ≤ n → SpelledBy a (later_reading a)
later_spelled-within zero a fits h = rw (later_reading-none a (nothing_at a h)) (record { text = refl; each = tt })
later_spelled-within (suc n) a fits h = later_spelled-at n a fits h (λ b k. later_spelled-within n b k) (cell_at a) refl

-- What is read spells the bytes, up to those that are left.
pub later_spelled : (a : List ℕ) → IsBytes a → SpelledBy a (later_reading a)
later_spelled a fits = later_spelled-within (length a) a fits (omega arith)

-- The cells of a link are spelled by a prefix of its bytes.
pub whole_spelled : (bytes : List ℕ) → IsBytes bytes
    → (front rest : List ℕ) × (bytes ≡ front ++ rest) × Spells front (whole bytes)
unfolding whole reading
whole_spelled bytes fits =
    let own = later_spelled bytes fits in (
      flat_map encoding (later_reading bytes).cells,
      (later_reading bytes).left.bytes,
      own.text,
      record { text = refl; each = own.each },
    )

-- And they are the longest such list: each other begins it.
pub whole_longest : (bytes front rest : List ℕ) (cells : List WireCell) → bytes ≡ front ++ rest → Spells front cells
    → (others : List WireCell) × (whole bytes ≡ cells ++ others)
unfolding whole reading
whole_longest bytes front rest cells cut spells = (
  (later_reading rest).cells,
  ap (λ b. (later_reading b).cells) (cut ∙ ap (λ f. f ++ rest) spells.text)
      ∙ ap (λ r. r.cells) (spelled_first cells rest spells.each),
)
