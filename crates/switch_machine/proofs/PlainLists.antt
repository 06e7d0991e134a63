-- For code over plain lists: no channel and no circuit is gone, and each circuit has one leg.
use Rattle.std.proofs.Common.{◌≡◌, ℕ, ◌+◌, ◌<◌, ◌≤◌, Bool, true, false, if◌then◌else◌, is_some, nat_lt, List, [], ◌∷◌, ◌++◌, length, Option, Some, None, slice_get, slice_set, refl, ◌∙◌, ap, arith, add-one, zero, suc}
use Rattle.std.specs.List.{list_any}
use Rattle.std.proofs.lemmas.Bool.Decides.{nat_tests}
use Rattle.switch_model.specs.Names.{Leg}
use Rattle.switch_model.specs.History.Channels.{count_below}
use Rattle.switch_model.specs.Waiting.Counts.{lesser, least_of}
use Rattle.switch_machine.specs.State.{State, slot_at, with_slot, all_there}
use Rattle.switch_machine.specs.Machine.{filled_slots, leg_at, legs_of}
use Rattle.switch_machine.specs.Calls.NextCell.{waits_on, waiting_before}

pub length-all_there : {A : Type 0} (xs : List A) → length (all_there xs) ≡ length xs
length-all_there [] = refl
length-all_there (x ∷ xs) = rw (length-all_there xs) refl

pub slot_at-all_there : {A : Type 0} (xs : List A) (n : ℕ) → slot_at (all_there xs) n ≡ slice_get xs n
unfolding slot_at
slot_at-all_there [] n = refl
slot_at-all_there (x ∷ xs) zero = refl
slot_at-all_there (x ∷ xs) (suc n) = slot_at-all_there xs n

pub with_slot-all_there : {A : Type 0} (xs : List A) (n : ℕ) (x : A)
    → with_slot (all_there xs) n (Some x) ≡ all_there (slice_set xs n x)
unfolding with_slot
with_slot-all_there [] n x = refl
with_slot-all_there (y ∷ xs) zero x = refl
with_slot-all_there (y ∷ xs) (suc n) x = ap (λ l. Some y ∷ l) (with_slot-all_there xs n x)

pub all_there-push : {A : Type 0} (xs : List A) (x : A) → all_there (xs ++ x ∷ []) ≡ all_there xs ++ Some x ∷ []
all_there-push [] x = refl
all_there-push (y ∷ xs) x = rw (all_there-push xs x) refl

count-all : (p : ℕ → Bool) (n : ℕ) → ((m : ℕ) → m < n → p m ≡ true) → count_below p n ≡ n
count-all p zero all = refl
count-all p (suc n) all = rw (all n (omega arith), count-all p n (λ m below. all m (omega arith))) (add-one n)

got-some : {A : Type 0} (xs : List A) (m : ℕ) → m < length xs → is_some (slice_get xs m) ≡ true
got-some [] m below = absurd (omega arith)
got-some (x ∷ xs) zero below = refl
got-some (x ∷ xs) (suc m) below = got-some xs m (omega arith)

pub filled-all_there : {A : Type 0} (xs : List A) → filled_slots (all_there xs) ≡ length xs
filled-all_there xs =
    ap (count_below (λ m. is_some (slot_at (all_there xs) m))) (length-all_there xs)
    ∙ count-all (λ m. is_some (slot_at (all_there xs) m)) (length xs)
    (λ m below. rw (slot_at-all_there xs m) (got-some xs m below))

pub list_any-all_there : {A : Type 0} (test : Option A → Bool) (xs : List A)
    → list_any test (all_there xs) ≡ list_any (λ x. test (Some x)) xs
list_any-all_there test [] = refl
list_any-all_there test (x ∷ xs) = rw (list_any-all_there test xs) refl

-- the least of one more leg
abbrev pub better : (Leg → ℕ) → Option Leg → Leg → Leg
better f None leg = leg
better f (Some best) leg = if nat_lt (f leg) (f best) then leg else best

below-both : (a b c : ℕ) → nat_lt a b ≡ true → nat_lt b c ≡ true → nat_lt a c ≡ false → ⊥
below-both a b c ab bc ac = let one : a < b = grind (arith, nat_tests) in let two : b < c =
    grind (arith, nat_tests) in let no : c ≤ a = grind (arith, nat_tests) in omega arith

above-both : (a b c : ℕ) → nat_lt a b ≡ false → nat_lt b c ≡ false → nat_lt a c ≡ true → ⊥
above-both a b c ab bc ac = let one : b ≤ a = grind (arith, nat_tests) in let two : c ≤ b =
    grind (arith, nat_tests) in let no : a < c = grind (arith, nat_tests) in omega arith

better-by : (f : Leg → ℕ) (first best leg : Leg) (p q r : Bool) → nat_lt (f leg) (f best) ≡ p → nat_lt (f best) (f first) ≡ q
    → nat_lt (f leg) (f first) ≡ r →
    lesser f first (Some (better f (Some best) leg)) ≡ better f (Some (lesser f first (Some best))) leg
better-by f first best leg true true true lb bf lf = rw (lb, bf, lf, lb) refl
better-by f first best leg true true false lb bf lf = absurd (below-both (f leg) (f best) (f first) lb bf lf)
better-by f first best leg true false r lb bf lf = rw (lb, bf) refl
better-by f first best leg false true r lb bf lf = rw (lb, bf, lb) refl
better-by f first best leg false false true lb bf lf = absurd (above-both (f leg) (f best) (f first) lb bf lf)
better-by f first best leg false false false lb bf lf = rw (lb, bf, lf) refl

least-by : (f : Leg → ℕ) (first leg : Leg) (o : Option Leg)
    → lesser f first (Some (better f o leg)) ≡ better f (Some (lesser f first o)) leg
least-by f first leg None = refl
least-by f first leg (Some best) =
    better-by f first best leg (nat_lt (f leg) (f best)) (nat_lt (f best) (f first)) (nat_lt (f leg) (f first)) refl refl refl

pub least_of-last : (f : Leg → ℕ) (legs : List Leg) (leg : Leg)
    → least_of f (legs ++ leg ∷ []) ≡ Some (better f (least_of f legs) leg)
least_of-last f [] leg = refl
least_of-last f (first ∷ legs) leg = rw (least_of-last f legs leg) (ap Some (least-by f first leg (least_of f legs)))

-- the legs that wait, one circuit further on
pub waiting_before-more : (s : State) (chan n : ℕ) → legs_of (slot_at s.circuits n) ≡ 1 →
    waiting_before s chan (n + 1) ≡ waiting_before s chan n
    ++ (if waits_on chan (leg_at (slot_at s.circuits n) 0) then record { circ = n; number = 0 } ∷ [] else [])
waiting_before-more s chan n one = rw (add-one n, one) refl
