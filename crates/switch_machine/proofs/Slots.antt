-- Lists with a place for each number.
use Rattle.std.proofs.Common.{◌≡◌, ℕ, ◌<◌, ◌≤◌, ◌==◌, ◌||◌, Bool, true, false, if◌then◌else◌, List, [], ◌∷◌, ◌++◌, length, Option, Some, None, refl, sym, ◌∙◌, arith, zero, suc}
use Rattle.std.specs.List.{list_any}
use Rattle.std.proofs.lemmas.Grind.{common_steps}
use Rattle.std.proofs.lemmas.Option.{gets}
use Rattle.std.proofs.lemmas.Bool.Decides.{nat_tests}
use Rattle.switch_model.specs.History.Channels.{count_below}
use Rattle.switch_machine.specs.State.{slot_at, with_slot}

pub slot_at-with : {A : Type 0} (slots : List (Option A)) (n : ℕ) (x : Option A) (m : ℕ) → n < length slots
    → slot_at (with_slot slots n x) m ≡ (if m == n then x else slot_at slots m)
unfolding slot_at with_slot
slot_at-with slots n x m inside = grind (arith, common_steps, gets, nat_tests)

pub length-with : {A : Type 0} (slots : List (Option A)) (n : ℕ) (x : Option A) → length (with_slot slots n x) ≡ length slots
unfolding with_slot
length-with slots n x = grind (arith, common_steps)

-- nothing is put behind the end
pub slot_at-outside : {A : Type 0} (slots : List (Option A)) (n : ℕ) (x : Option A) (m : ℕ) → length slots ≤ n
    → slot_at (with_slot slots n x) m ≡ slot_at slots m
unfolding slot_at with_slot
slot_at-outside slots n x m outside = grind (arith, common_steps, gets)

pub slot_at-push : {A : Type 0} (slots : List (Option A)) (x : Option A) (m : ℕ)
    → slot_at (slots ++ x ∷ []) m ≡ (if m == length slots then x else slot_at slots m)
unfolding slot_at
slot_at-push slots x m = grind (arith, common_steps, gets, nat_tests)

pub slot_at-past : {A : Type 0} (slots : List (Option A)) (m : ℕ) → length slots ≤ m → slot_at slots m ≡ None
unfolding slot_at
slot_at-past slots m past = grind (arith, common_steps, gets)

pub slot_at-inside : {A : Type 0} (slots : List (Option A)) (m : ℕ) (x : A) → slot_at slots m ≡ Some x → m < length slots
slot_at-inside slots m x found = grind (arith, slot_at-past slots m)

-- a count that looks at equal tests
pub count_below-same : (p q : ℕ → Bool) → ((n : ℕ) → p n ≡ q n) → (n : ℕ) → count_below p n ≡ count_below q n
count_below-same p q same zero = refl
count_below-same p q same (suc n) = rw (same n, count_below-same p q same n) refl

pub or-true : (b : Bool) → (b || true) ≡ true
or-true true = refl
or-true false = refl

-- some place passes a test that an empty place doesn't
pub list_any-slot : {A : Type 0} (test : Option A → Bool) (slots : List (Option A)) (n : ℕ) → test None ≡ false
    → test (slot_at slots n) ≡ true → list_any test slots ≡ true
unfolding slot_at
list_any-slot test [] n none passes = let no : false ≡ true = sym none ∙ passes in cc
list_any-slot test (x ∷ slots) zero none passes = rw passes refl
list_any-slot test (x ∷ slots) (suc n) none passes = rw (list_any-slot test slots n none passes) (or-true (test x))

found-by : {A : Type 0} (test : Option A → Bool) (x : Option A) (slots : List (Option A)) (b : Bool) → test x ≡ b
    → ((b || list_any test slots) ≡ true) →
    (list_any test slots ≡ true → (n : ℕ) × (test (slot_at slots n) ≡ true)) → (n : ℕ) × (test (slot_at (x ∷ slots) n) ≡ true)
unfolding slot_at
found-by test x slots true here some later = (zero, here)
found-by test x slots false here some later = let found = later some in (suc found.0, found.1)

pub slot-list_any : {A : Type 0} (test : Option A → Bool) (slots : List (Option A)) → list_any test slots ≡ true
    → (n : ℕ) × (test (slot_at slots n) ≡ true)
slot-list_any test [] some = absurd cc
slot-list_any test (x ∷ slots) some = found-by test x slots (test x) refl some (slot-list_any test slots)
