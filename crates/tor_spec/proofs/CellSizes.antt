-- How many bytes a cell has, as its head tells.
use Rattle.std.proofs.Common.{ℕ, ◌≡◌, ◌+◌, ◌<◌, ◌≤◌, [], ◌∷◌, ◌++◌, List, length, take, get_or, true, false, sym, ap, ◌∙◌, arith, length-append, Option, Some, None, ◌⊎◌, inl, inr}
use Rattle.std.specs.Prelude.{slice_index, nat_lt, if◌then◌else◌}
use Rattle.std.specs.Int.{w16, from_be_bytes}
use Rattle.std.proofs.lemmas.Bool.{ltb-true, ltb-false, le-ltb, cases_lt}
use Rattle.std.proofs.lemmas.List.{get_or_append_left, get_or-take, length-take-le}
use Rattle.std.proofs.lemmas.Option.{none-some, same_Some}
use Rattle.tor_spec.specs.CellEncoding.{is_variable}
use Rattle.tor_spec.specs.CellReading.{cell_size, first_size}
use Rattle.tor_spec.proofs.Choices.{unless, chosen, untold}

-- The length fields, as sizes of whole cells.
abbrev pub told_length : List ℕ → ℕ
told_length a = 7 + from_be_bytes w16 (slice_index a 5 ∷ slice_index a 6 ∷ [])

abbrev pub first_length : List ℕ → ℕ
first_length a = 5 + from_be_bytes w16 (slice_index a 3 ∷ slice_index a 4 ∷ [])

abbrev told_size : List ℕ → Option ℕ
told_size a = if nat_lt (length a) 7 then None else Some (told_length a)

-- A head that tells a size has one of these two forms.
pub record TellsVariable (a : List ℕ) (n : ℕ) : Type 0 where
  pub variable : is_variable (slice_index a 4) ≡ true
  pub long : 7 ≤ length a
  pub size : told_length a ≡ n

pub record TellsFixed (a : List ℕ) (n : ℕ) : Type 0 where
  pub fixed : is_variable (slice_index a 4) ≡ false
  pub long : 5 ≤ length a
  pub size : 514 ≡ n

pub size_told : (a : List ℕ) (n : ℕ) → cell_size a ≡ Some n → TellsVariable a n ⊎ TellsFixed a n
unfolding cell_size
size_told a n e =
    let head = unless _ _ n e in
    elim (chosen (is_variable (slice_index a 4)) (told_size a) (Some 514) (Some n) head.1) [
      | inl v ↦
          let told = unless _ _ n v.1 in
          inl (record { variable = v.0; long = ltb-false _ _ told.0; size = same_Some _ _ told.1 })
      | inr f ↦ inr (record { fixed = f.0; long = ltb-false _ _ head.0; size = same_Some _ _ f.1 })
    ]

pub size_variable : (a : List ℕ) (n : ℕ) → TellsVariable a n → cell_size a ≡ Some n
unfolding cell_size
size_variable a n t =
    let long = t.long in
    rw (le-ltb (length a) 5 (omega arith), t.variable, le-ltb (length a) 7 long) (ap Some t.size)

pub size_fixed : (a : List ℕ) (n : ℕ) → TellsFixed a n → cell_size a ≡ Some n
unfolding cell_size
size_fixed a n t = rw (le-ltb (length a) 5 t.long, t.fixed) (ap Some t.size)

pub first_size_told : (a : List ℕ) (n : ℕ) → first_size a ≡ Some n → (5 ≤ length a) × (first_length a ≡ n)
unfolding first_size
first_size_told a n e = let told = unless _ _ n e in (ltb-false _ _ told.0, same_Some _ _ told.1)

pub first_size_is : (a : List ℕ) (n : ℕ) → 5 ≤ length a → first_length a ≡ n → first_size a ≡ Some n
unfolding first_size
first_size_is a n long size = rw (le-ltb (length a) 5 long) (ap Some size)

pub least_size : (a : List ℕ) (n : ℕ) → cell_size a ≡ Some n → 5 ≤ n
least_size a n e = elim (size_told a n e) [
  | inl v ↦ let size = v.size in omega arith
  | inr f ↦ let size = f.size in omega arith
]

-- Two lists with the same head tell the same size.
same_variable : (a b : List ℕ) (n : ℕ) → ((i : ℕ) → i < 7 → get_or b i 0 ≡ get_or a i 0) → 7 ≤ length b → TellsVariable a n
    → TellsVariable b n
same_variable a b n same long t = record {
  variable = ap is_variable (same 4 (omega arith)) ∙ t.variable;
  long = long;
  size = rw (same 5 (omega arith), same 6 (omega arith)) t.size;
}

same_fixed : (a b : List ℕ) (n : ℕ) → get_or b 4 0 ≡ get_or a 4 0 → 5 ≤ length b → TellsFixed a n → TellsFixed b n
same_fixed a b n same long t = record { fixed = ap is_variable same ∙ t.fixed; long = long; size = t.size }

-- A head's bytes stay where they are when more bytes follow.
pub kept : (a b : List ℕ) (i : ℕ) → i < length a → get_or (a ++ b) i 0 ≡ get_or a i 0
kept a b i h = get_or_append_left a b 0 i h

pub reaches : (a b : List ℕ) (n : ℕ) → n ≤ length a → n ≤ length (a ++ b)
reaches a b n h = simp length-append (omega arith)

-- More bytes behind a head don't change the size.
pub cell_size-append : (a b : List ℕ) (n : ℕ) → cell_size a ≡ Some n → cell_size (a ++ b) ≡ Some n
cell_size-append a b n e = elim (size_told a n e) [
  | inl v ↦ let long = v.long in
      size_variable (a ++ b) n (same_variable a (a ++ b) n (λ i h. kept a b i (omega arith)) (reaches a b 7 long) v)
  | inr f ↦ let long = f.long in
      size_fixed (a ++ b) n (same_fixed a (a ++ b) n (kept a b 4 (omega arith)) (reaches a b 5 long) f)
]

pub first_size-append : (a b : List ℕ) (n : ℕ) → first_size a ≡ Some n → first_size (a ++ b) ≡ Some n
first_size-append a b n e =
    let told = first_size_told a n e in
    let long = told.0 in
    first_size_is (a ++ b) n (reaches a b 5 long) (rw (kept a b 3 (omega arith), kept a b 4 (omega arith)) told.1)

-- The bytes that a size cuts off tell it too.
pub cell_size-take : (a : List ℕ) (n : ℕ) → cell_size a ≡ Some n → n ≤ length a → cell_size (take n a) ≡ Some (length (take n a))
cell_size-take a n e within =
    let long : length (take n a) ≡ n = length-take-le n a within in
    rw long (elim (size_told a n e) [
      | inl v ↦ let size = v.size in
          size_variable (take n a) n (same_variable a (take n a) n (λ i h. get_or-take n a i 0 (omega arith)) (omega arith) v)
      | inr f ↦ let size = f.size in
          size_fixed (take n a) n (same_fixed a (take n a) n (get_or-take n a 4 0 (omega arith)) (omega arith) f)
    ])

pub first_size-take : (a : List ℕ) (n : ℕ) → first_size a ≡ Some n → n ≤ length a
    → first_size (take n a) ≡ Some (length (take n a))
first_size-take a n e within =
    let long : length (take n a) ≡ n = length-take-le n a within in
    let told = first_size_told a n e in
    let size = told.1 in
    rw long (first_size_is (take n a) n (omega arith)
    (rw (get_or-take n a 3 0 (omega arith), get_or-take n a 4 0 (omega arith)) size))

-- Where no size is told yet, the bytes are fewer than any size that will be.
pub untold_short : (a b : List ℕ) (n : ℕ) → cell_size a ≡ None → cell_size (a ++ b) ≡ Some n → length a ≤ n
unfolding cell_size
untold_short a b n none e =
    let least = least_size (a ++ b) n e in
    elim (cases_lt (length a) 5) [
      | inl short ↦ omega arith
      | inr long ↦
          let told : (if is_variable (slice_index a 4) then told_size a else Some 514) ≡ None =
          rw (le-ltb (length a) 5 long) at none in
          elim (chosen (is_variable (slice_index a 4)) (told_size a) (Some 514) None told) [
            | inl v ↦
                let short : length a < 7 = ltb-true _ _ (untold _ _ v.1) in
                elim (size_told (a ++ b) n e) [
                  | inl w ↦ let size = w.size in omega arith
                  | inr f ↦ let size = f.size in omega arith
                ]
            | inr f ↦ absurd (none-some 514 (sym f.1))
          ]
    ]

pub first_untold_short : (a b : List ℕ) (n : ℕ) → first_size a ≡ None → first_size (a ++ b) ≡ Some n → length a ≤ n
unfolding first_size
first_untold_short a b n none e =
    let short : length a < 5 = ltb-true _ _ (untold _ _ none) in
    let size = (first_size_told (a ++ b) n e).1 in
    omega arith
