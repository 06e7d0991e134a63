-- The cell that bytes begin with, and what is behind it.
use Rattle.std.proofs.Common.{ℕ, ◌≡◌, ◌<◌, ◌≤◌, [], ◌++◌, List, length, take, drop, true, refl, sym, ◌∙◌, arith, length-append, length-drop, Option, Some, None, inl, inr}
use Rattle.std.specs.Prelude.{nat_le}
use Rattle.std.proofs.lemmas.Bool.{leb-true, le-leb, lt-leb, cases_lt}
use Rattle.std.proofs.lemmas.List.{take-append-le, drop-append-le}
use Rattle.std.proofs.lemmas.Option.{none-some, same_Some, cond_some, option_and_then_some}
use Rattle.tor_spec.specs.CellEncoding.{WireCell}
use Rattle.tor_spec.specs.CellReading.{cell_size, cell_of, first_size, first_of, cut_off, cell_at, first_at}
use Rattle.tor_spec.proofs.CellSizes.{cell_size-append, first_size-append, first_size_told, least_size, untold_short, first_untold_short}

-- What was cut off stays when more bytes follow.
cut_off-append : (of : List ℕ → WireCell) (a b : List ℕ) (n : ℕ) (found : WireCell × List ℕ)
    → cut_off of a n ≡ Some found → cut_off of (a ++ b) n ≡ Some (found.0, found.1 ++ b)
cut_off-append of a b n found e =
    let cut = cond_some _ _ _ e in
    let within : n ≤ length a = leb-true _ _ cut.0 in
    let still : nat_le n (length (a ++ b)) ≡ true = le-leb _ _ (simp length-append (omega arith)) in
    rw (still, take-append-le n a b within, drop-append-le n a b within, ← cut.1) refl

pub cell_at-append : (a b : List ℕ) (found : WireCell × List ℕ) → cell_at a ≡ Some found
    → cell_at (a ++ b) ≡ Some (found.0, found.1 ++ b)
unfolding cell_at
cell_at-append a b found e =
    option_and_then_some _ _ found e (λ n size cut. rw (cell_size-append a b n size) (cut_off-append cell_of a b n found cut))

pub first_at-append : (a b : List ℕ) (found : WireCell × List ℕ) → first_at a ≡ Some found
    → first_at (a ++ b) ≡ Some (found.0, found.1 ++ b)
unfolding first_at
first_at-append a b found e =
    option_and_then_some _ _ found e (λ n size cut. rw (first_size-append a b n size) (cut_off-append first_of a b n found cut))

pub first_at-told : (a : List ℕ) (found : WireCell × List ℕ) → first_at a ≡ Some found → 5 ≤ length a
unfolding first_at
first_at-told a found e = option_and_then_some _ _ found e (λ n size cut. (first_size_told a n size).0)

-- A cell that has ended leaves fewer bytes.
pub cell_at-shorter : (a : List ℕ) (found : WireCell × List ℕ) → cell_at a ≡ Some found → length found.1 < length a
unfolding cell_at
cell_at-shorter a found e = option_and_then_some _ _ found e (λ n size cut.
    let least : 5 ≤ n = least_size a n size in
    let parts = cond_some _ _ _ cut in
    let within : n ≤ length a = leb-true _ _ parts.0 in
    rw (← parts.1, length-drop) (omega arith))

-- A cell with all its bytes is cut off, and no other is.
pub cell_ended : (a : List ℕ) (n : ℕ) → cell_size a ≡ Some n → n ≤ length a → cell_at a ≡ Some (cell_of (take n a), drop n a)
unfolding cell_at
cell_ended a n e within = rw (e, le-leb n (length a) within) refl

pub cell_unfinished : (a : List ℕ) (n : ℕ) → cell_size a ≡ Some n → length a < n → cell_at a ≡ None
unfolding cell_at
cell_unfinished a n e short = rw (e, lt-leb n (length a) short) refl

pub cell_untold : (a : List ℕ) → cell_size a ≡ None → cell_at a ≡ None
unfolding cell_at
cell_untold a e = rw e refl

pub first_ended : (a : List ℕ) (n : ℕ) → first_size a ≡ Some n → n ≤ length a → first_at a ≡ Some (first_of (take n a), drop n a)
unfolding first_at
first_ended a n e within = rw (e, le-leb n (length a) within) refl

pub first_unfinished : (a : List ℕ) (n : ℕ) → first_size a ≡ Some n → length a < n → first_at a ≡ None
unfolding first_at
first_unfinished a n e short = rw (e, lt-leb n (length a) short) refl

pub first_untold : (a : List ℕ) → first_size a ≡ None → first_at a ≡ None
unfolding first_at
first_untold a e = rw e refl

beyond : (a b : List ℕ) (n : ℕ) → cell_at a ≡ None → cell_size (a ++ b) ≡ Some n → (o : Option ℕ) → cell_size a ≡ o → length a ≤ n
beyond a b n none e None s = untold_short a b n s e
beyond a b n none e (Some m) s =
    let same : m ≡ n = same_Some m n (sym (cell_size-append a b m s) ∙ e) in
    elim (cases_lt (length a) m) [
      | inl short ↦ omega arith
      | inr within ↦ absurd (none-some _ (sym none ∙ cell_ended a m s within))
    ]

-- A cell that ends in a further piece is no shorter than what was there.
pub size_beyond : (a b : List ℕ) (n : ℕ) → cell_at a ≡ None → cell_size (a ++ b) ≡ Some n → length a ≤ n
size_beyond a b n none e = beyond a b n none e (cell_size a) refl

first_beyond : (a b : List ℕ) (n : ℕ) → first_at a ≡ None → first_size (a ++ b) ≡ Some n → (o : Option ℕ) → first_size a ≡ o
    → length a ≤ n
first_beyond a b n none e None s = first_untold_short a b n s e
first_beyond a b n none e (Some m) s =
    let same : m ≡ n = same_Some m n (sym (first_size-append a b m s) ∙ e) in
    elim (cases_lt (length a) m) [
      | inl short ↦ omega arith
      | inr within ↦ absurd (none-some _ (sym none ∙ first_ended a m s within))
    ]

pub first_size_beyond : (a b : List ℕ) (n : ℕ) → first_at a ≡ None → first_size (a ++ b) ≡ Some n → length a ≤ n
first_size_beyond a b n none e = first_beyond a b n none e (first_size a) refl

-- Nothing has ended, and nothing is wrong, before the first byte.
pub empty_cell : cell_at [] ≡ None
unfolding cell_at cell_size
empty_cell = refl

pub empty_first : first_at [] ≡ None
unfolding first_at first_size
empty_first = refl
