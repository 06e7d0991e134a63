-- Looking into lists.
use Rattle.std.proofs.Common.{◌≡◌, ◌⊎◌, inl, inr, ℕ, zero, suc, List, [], ◌∷◌, ◌++◌, length, Bool, true, false, Option, Some, None, refl, sym, ap, ◌∙◌, arith, find, option_map, cond}
use Rattle.std.specs.Prelude.{slice_get}
use Rattle.std.specs.Option.{unwrap_or}

pub same_some : {A : Type 0} (x y : A) → Some x ≡ Some y → x ≡ y
same_some {A} x y is = ap (λ (o : Option A). unwrap_or o x) is

pub map_none : {A B : Type 0} (f : A → B) (x : Option A) → option_map f x ≡ None → x ≡ None
map_none f None is = refl
map_none f (Some x) is = cc

-- A list with one more at its end.

pub got_before : {A : Type 0} (xs : List A) (y x : A) (i : ℕ) → slice_get xs i ≡ Some x → slice_get (xs ++ y ∷ []) i ≡ Some x
got_before [] y x i got = cc
got_before (z ∷ xs) y x zero got = got
got_before (z ∷ xs) y x (suc i) got = got_before xs y x i got

pub got_last : {A : Type 0} (xs : List A) (y : A) → slice_get (xs ++ y ∷ []) (length xs) ≡ Some y
got_last [] y = refl
got_last (z ∷ xs) y = got_last xs y

one-further : {A : Type 0} (xs : List A) (z y x : A) (i : ℕ) → (slice_get xs i ≡ Some x) ⊎ ((i ≡ length xs) × (x ≡ y)) →
    (slice_get (z ∷ xs) (suc i) ≡ Some x) ⊎ ((suc i ≡ length (z ∷ xs)) × (x ≡ y))
one-further xs z y x i (inl before) = inl before
one-further xs z y x i (inr last) = inr (omega (arith, last.0), last.1)

pub got_split : {A : Type 0} (xs : List A) (y x : A) (i : ℕ) → slice_get (xs ++ y ∷ []) i ≡ Some x
    → (slice_get xs i ≡ Some x) ⊎ ((i ≡ length xs) × (x ≡ y))
got_split [] y x zero got = inr (refl, sym (same_some y x got))
got_split [] y x (suc i) got = cc
got_split (z ∷ xs) y x zero got = inl got
got_split (z ∷ xs) y x (suc i) got = one-further xs z y x i (got_split xs y x i got)

-- What a search finds.

cond-none : {A : Type 0} (b : Bool) (x : A) (r : Option A) → cond b (Some x) r ≡ None → (b ≡ false) × (r ≡ None)
cond-none true x r is = cc
cond-none false x r is = (refl, is)

cond-some : {A : Type 0} (b : Bool) (x y : A) (r : Option A) → cond b (Some x) r ≡ Some y → ((b ≡ true) × (x ≡ y)) ⊎ (r ≡ Some y)
cond-some true x y r is = inl (refl, same_some x y is)
cond-some false x y r is = inr is

pub nothing_found : {A : Type 0} (t : A → Bool) (xs : List A) (i : ℕ) (x : A) → find t xs ≡ None → slice_get xs i ≡ Some x
    → t x ≡ false
nothing_found t [] i x none got = cc
nothing_found t (y ∷ xs) zero x none got = ap t (sym (same_some y x got)) ∙ (cond-none (t y) y (find t xs) none).0
nothing_found t (y ∷ xs) (suc i) x none got = nothing_found t xs i x (cond-none (t y) y (find t xs) none).1 got

-- It stands in the list and passes.
pub record IsAmong {A : Type 0} (t : A → Bool) (xs : List A) (x : A) : Type 0 where
  pub place : ℕ
  pub got : slice_get xs place ≡ Some x
  pub passes : t x ≡ true

among-first : {A : Type 0} (t : A → Bool) (y : A) (xs : List A) (x : A) → (t y ≡ true) × (y ≡ x) → IsAmong t (y ∷ xs) x
among-first t y xs x is = record { place = 0; got = ap Some is.1; passes = ap t (sym is.1) ∙ is.0 }

among-later : {A : Type 0} (t : A → Bool) (y : A) (xs : List A) (x : A) → IsAmong t xs x → IsAmong t (y ∷ xs) x
among-later t y xs x is = record { place = suc is.place; got = is.got; passes = is.passes }

among-by : {A : Type 0} (t : A → Bool) (y : A) (xs : List A) (x : A) → (find t xs ≡ Some x → IsAmong t xs x) →
    ((t y ≡ true) × (y ≡ x)) ⊎ (find t xs ≡ Some x) → IsAmong t (y ∷ xs) x
among-by t y xs x rest (inl first) = among-first t y xs x first
among-by t y xs x rest (inr later) = among-later t y xs x (rest later)

pub found_among : {A : Type 0} (t : A → Bool) (xs : List A) (x : A) → find t xs ≡ Some x → IsAmong t xs x
found_among t [] x is = cc
found_among t (y ∷ xs) x is = among-by t y xs x (λ later. found_among t xs x later) (cond-some (t y) y x (find t xs) is)
