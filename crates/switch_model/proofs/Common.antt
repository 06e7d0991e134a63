-- Facts about tests, lists and options.
use Rattle.std.proofs.Common.{◌≡◌, ℕ, ◌==◌, ◌||◌, ◌&&◌, Bool, true, false, List, [], ◌∷◌, ◌++◌, length, drop, Option, Some, None, refl, sym, ◌∙◌, ap, append_assoc, arith}
use Rattle.std.specs.List.{AllByRecursion}
use Rattle.std.proofs.lemmas.Bool.{eq-eqb}
use Rattle.std.proofs.lemmas.List.{append-nil}
use Rattle.std.proofs.lemmas.Bool.Decides.{nat_tests}
use Rattle.switch_model.specs.Names.{Leg, is_leg}
use Rattle.switch_model.specs.History.Taken.{is_hop_leg}
use Rattle.switch_model.specs.History.Past.{is_of_circuit}

pub self_eq : (n : ℕ) → (n == n) ≡ true
self_eq n = eq-eqb n n refl

pub not_equal : (n m : ℕ) → (m ≡ n → ⊥) → (n == m) ≡ false
not_equal n m other = grind (arith, nat_tests)

pub or-first : (a b : Bool) → (a || b) ≡ false → a ≡ false
or-first true b e = e
or-first false b e = refl

pub or-second : (a b : Bool) → (a || b) ≡ false → b ≡ false
or-second true b e = cc
or-second false b e = e

pub is_leg-other : (x : Option Leg) (c : ℕ) → is_of_circuit c x ≡ false → (k : ℕ) → is_leg c k x ≡ false
is_leg-other (Some leg) c other k = rw other refl
is_leg-other None c other k = refl

pub is_hop_leg-other : (x : Option Leg) (c : ℕ) → is_of_circuit c x ≡ false → is_hop_leg c x ≡ false
is_hop_leg-other (Some leg) c other = rw other refl
is_hop_leg-other None c other = refl

pub drop-front : {A : Type 0} (xs ys : List A) → drop (length xs) (xs ++ ys) ≡ ys
drop-front [] ys = refl
drop-front (x ∷ xs) ys = drop-front xs ys

pub and-first : (a b : Bool) → (a && b) ≡ true → a ≡ true
and-first true b e = refl
and-first false b e = e

pub and-second : (a b : Bool) → (a && b) ≡ true → b ≡ true
and-second true b e = e
and-second false b e = cc

pub and-false : (a : Bool) → (a && false) ≡ false
and-false true = refl
and-false false = refl

pub same-number : (a b : ℕ) → (a == b) ≡ true → a ≡ b
same-number a b e = grind (arith, nat_tests)

-- one list begins another
pub record Begins {A : Type 0} (xs ys : List A) : Type 0 where
  pub rest : List A
  pub all : xs ++ rest ≡ ys

pub same-list : {A : Type 0} (xs : List A) → Begins xs xs
same-list xs = record { rest = []; all = append-nil xs }

pub none-begins : {A : Type 0} (xs ys : List A) → xs ≡ [] → Begins xs ys
none-begins xs ys none = record { rest = ys; all = ap (λ l. l ++ ys) none }

pub both-begin : {A : Type 0} (xs ys zs : List A) → Begins xs ys → Begins ys zs → Begins xs zs
both-begin xs ys zs first second = record {
  rest = first.rest ++ second.rest;
  all = sym (append_assoc xs first.rest second.rest) ∙ ap (λ l. l ++ second.rest) first.all ∙ second.all;
}

-- what holds of each element of some lists
pub all-append : {A : Type 0} (P : A → Type 0) (xs ys : List A) → AllByRecursion P xs → AllByRecursion P ys
    → AllByRecursion P (xs ++ ys)
all-append P [] ys first second = second
all-append P (x ∷ xs) ys first second = (first.0, all-append P xs ys first.1 second)

pub all-then : {A : Type 0} (P Q : A → Type 0) → ((x : A) → P x → Q x) → (xs : List A) → AllByRecursion P xs → AllByRecursion Q xs
all-then P Q more [] all = tt
all-then P Q more (x ∷ xs) all = (more x all.0, all-then P Q more xs all.1)

pub all-two : {A : Type 0} (P Q R : A → Type 0) → ((x : A) → P x → Q x → R x) → (xs : List A) → AllByRecursion P xs
    → AllByRecursion Q xs → AllByRecursion R xs
all-two P Q R more [] one other = tt
all-two P Q R more (x ∷ xs) one other = (more x one.0 other.0, all-two P Q R more xs one.1 other.1)

pub all-any : {A : Type 0} (P : A → Type 0) → ((x : A) → P x) → (xs : List A) → AllByRecursion P xs
all-any P own [] = tt
all-any P own (x ∷ xs) = (own x, all-any P own xs)
