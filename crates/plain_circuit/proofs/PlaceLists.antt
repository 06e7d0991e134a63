-- A place by its number, from what `get` says of it.
use Rattle.std.proofs.Common.{◌≡◌, ℕ, zero, suc, List, [], ◌∷◌, length, get_or, Option, Some, None, is_some, Bool, true, false, nat_lt, refl, ap, ◌∙◌, arith, Bor}
use Rattle.std.specs.Option.{option_copied, unwrap_or}
use Rattle.std.specs.Prelude.{slice_get}
use Rattle.circuit_model.specs.Places.{Place}

is_some-copied : (o : Option (Bor Place)) → is_some (option_copied o) ≡ is_some o
is_some-copied None = refl
is_some-copied (Some x) = refl

first-is : (x : Place) (r : Option Place) → is_some r ≡ true → unwrap_or r x ≡ x → r ≡ Some x
first-is x None some is = cc
first-is x (Some y) some is = ap Some is

none-is : (r : Option Place) → is_some r ≡ false → r ≡ None
none-is None none = refl
none-is (Some x) none = cc

shifted-by : (a b : Bool) (i n : ℕ) → nat_lt (suc i) (suc n) ≡ a → nat_lt i n ≡ b → a ≡ b
shifted-by true true i n p q = refl
shifted-by false false i n p q = refl
shifted-by true false i n p q = absurd (grind arith)
shifted-by false true i n p q = absurd (grind arith)

shifted : (i n : ℕ) → nat_lt (suc i) (suc n) ≡ nat_lt i n
shifted i n = shifted-by (nat_lt (suc i) (suc n)) (nat_lt i n) i n refl refl

lookup-is : (xs : List Place) (i : ℕ) (r : Option Place) → is_some r ≡ nat_lt i (length xs)
    → ((d : Place) → unwrap_or r d ≡ get_or xs i d) → r ≡ slice_get xs i
lookup-is [] i r some is = none-is r (some ∙ grind arith)
lookup-is (x ∷ xs) zero r some is = first-is x r (some ∙ grind arith) (is x)
lookup-is (x ∷ xs) (suc i) r some is = lookup-is xs i r (some ∙ shifted i (length xs)) is

pub copied-is : (xs : List Place) (i : ℕ) (o : Option (Bor Place)) → is_some o ≡ nat_lt i (length xs)
    → ((d : Place) → unwrap_or (option_copied o) d ≡ get_or xs i d) → option_copied o ≡ slice_get xs i
copied-is xs i o some is = lookup-is xs i (option_copied o) (is_some-copied o ∙ some) is
