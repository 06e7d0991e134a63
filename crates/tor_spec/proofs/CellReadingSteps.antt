-- How the reading of a link's cells goes from one cell to the next.
use Rattle.std.proofs.Common.{ℕ, zero, suc, ◌≡◌, ◌≤◌, [], ◌∷◌, List, length, false, refl, sym, ap, ◌∙◌, arith, Option, Some, None}
use Rattle.tor_spec.specs.CellEncoding.{WireCell}
use Rattle.tor_spec.specs.CellReading.{cell_size, cell_at, Reading, with_cell, reading_within, later_reading}
use Rattle.tor_spec.proofs.CellCuts.{cell_at-shorter}

-- Nothing has ended in these bytes.
abbrev pub unread_later : List ℕ → Reading
unread_later bytes = record { cells = []; left = record { opening = false; bytes = bytes } }

within-none : (n : ℕ) (a : List ℕ) → cell_at a ≡ None → reading_within (suc n) a ≡ unread_later a
unfolding reading_within
within-none n a e = rw e refl

within-some : (n : ℕ) (a : List ℕ) (found : WireCell × List ℕ) → cell_at a ≡ Some found
    → reading_within (suc n) a ≡ with_cell found.0 (reading_within n found.1)
unfolding reading_within
within-some n a found e = rw e refl

pub nothing_at : (a : List ℕ) → length a ≤ 0 → cell_at a ≡ None
unfolding cell_at cell_size
nothing_at [] h = refl
nothing_at (x ∷ a) h = absurd (omega arith)

within-same-at : (n m : ℕ) (a : List ℕ) → length a ≤ suc n → length a ≤ suc m
    → ((b : List ℕ) → length b ≤ n → length b ≤ m → reading_within n b ≡ reading_within m b)
    → (o : Option (WireCell × List ℕ)) → cell_at a ≡ o → reading_within (suc n) a ≡ reading_within (suc m) a
within-same-at n m a h k later None e = within-none n a e ∙ sym (within-none m a e)
within-same-at n m a h k later (Some found) e =
    let less = cell_at-shorter a found e in
    within-some n a found e ∙ ap (with_cell found.0) (later found.1 (omega arith) (omega arith)) ∙ sym (within-some m a found e)

-- With room for each byte the reading is the whole one.
within-same : (n m : ℕ) (a : List ℕ) → length a ≤ n → length a ≤ m → reading_within n a ≡ reading_within m a
unfolding reading_within
within-same zero zero a h k = refl
within-same zero (suc m) a h k = sym (within-none m a (nothing_at a h))
within-same (suc n) zero a h k = within-none n a (nothing_at a k)
within-same (suc n) (suc m) a h k = within-same-at n m a h k (within-same n m) (cell_at a) refl

-- Where no cell has ended, all is left.
pub later_reading-none : (a : List ℕ) → cell_at a ≡ None → later_reading a ≡ unread_later a
unfolding later_reading
later_reading-none a e = within-same (length a) (suc (length a)) a (omega arith) (omega arith) ∙ within-none (length a) a e

-- A cell that has ended comes first.
pub later_reading-some : (a : List ℕ) (found : WireCell × List ℕ) → cell_at a ≡ Some found
    → later_reading a ≡ with_cell found.0 (later_reading found.1)
unfolding later_reading
later_reading-some a found e =
    let less = cell_at-shorter a found e in
    within-same (length a) (suc (length a)) a (omega arith) (omega arith) ∙ within-some (length a) a found e
    ∙ ap (with_cell found.0) (within-same (length a) (length found.1) found.1 (omega arith) (omega arith))

-- In what is left no cell has ended.
settled-at : (n : ℕ) (a : List ℕ) → length a ≤ suc n → ((c : List ℕ) → length c ≤ n → cell_at (later_reading c).left.bytes ≡ None)
    → (o : Option (WireCell × List ℕ)) → cell_at a ≡ o → cell_at (later_reading a).left.bytes ≡ None
settled-at n a h later None e = ap (λ r. cell_at r.left.bytes) (later_reading-none a e) ∙ e
settled-at n a h later (Some found) e =
    let less = cell_at-shorter a found e in
    ap (λ r. cell_at r.left.bytes) (later_reading-some a found e) ∙ later found.1 (omega arith)

settled-within : (n : ℕ) (a : List ℕ) → length a ≤ n → cell_at (later_reading a).left.bytes ≡ None
settled-within zero a h = ap (λ r. cell_at r.left.bytes) (later_reading-none a (nothing_at a h)) ∙ nothing_at a h
settled-within (suc n) a h = settled-at n a h (λ c k. settled-within n c k) (cell_at a) refl

pub later_settled : (a : List ℕ) → cell_at (later_reading a).left.bytes ≡ None
later_settled a = settled-within (length a) a (omega arith)
