-- Lists by number in which some are gone, as the code keeps them.
use Rattle.std.proofs.Common.{◌≡◌, ℕ, ◌+◌, ◌++◌, ◌<◌, ◌≤◌, Bool, true, false, if◌then◌else◌, cond, is_some, count_by, List, [], ◌∷◌, length, get_or, Option, Some, None, slice_set, refl, sym, ◌∙◌, ap, add-one, arith, zero, suc}
use Rattle.std.proofs.lemmas.List.Recursion.{is_count_by}
use Rattle.switch_model.specs.History.Channels.{count_below}
use Rattle.switch_machine.specs.State.{CircuitState, State, slot_at, with_slot}
use Rattle.switch_machine.specs.Machine.{filled_slots, leg_at}
use Rattle.switch_machine.specs.Calls.NextCell.{waits_on, waiting_before}
use Rattle.switch_model.proofs.Common.{self_eq}
use Rattle.switch_machine.proofs.Slots.{slot_at-with, slot_at-past, length-with}
use Rattle.switch_core.specs.Opened.{Forgets}
use Rattle.switch_core.specs.Picking.{first_leg_of, HasOneLeg}
use Rattle.switch_core.specs.declared.relay.Relay.{Relay}

-- a place of the list
pub slot-get : {A : Type 0} (xs : List (Option A)) (n : ℕ) (d : Option A) → n < length xs → slot_at xs n ≡ get_or xs n d
unfolding slot_at
slot-get [] n d here = absurd (omega arith)
slot-get (x ∷ xs) zero d here = refl
slot-get (x ∷ xs) (suc n) d here = slot-get xs n d (omega arith)

pub slot-set : {A : Type 0} (xs : List (Option A)) (n : ℕ) (x : Option A) → with_slot xs n x ≡ slice_set xs n x
unfolding with_slot
slot-set xs n x = refl

-- a place that is written as it was
pub with-same : {A : Type 0} (xs : List (Option A)) (n : ℕ) → with_slot xs n (slot_at xs n) ≡ xs
unfolding slot_at with_slot
with-same [] n = refl
with-same (None ∷ xs) zero = refl
with-same (Some x ∷ xs) zero = refl
with-same (x ∷ xs) (suc n) = ap (λ l. x ∷ l) (with-same xs n)

-- how many are there

count-first : (b : Bool) → (if b then 0 + 1 else 0) ≡ (if b then 1 else 0) + 0
count-first true = refl
count-first false = refl

count-next : (b : ℕ) (c : Bool) (m k : ℕ) → m ≡ b + k → (if c then m + 1 else m) ≡ b + (if c then k + 1 else k)
count-next b true m k e = omega (arith, e)
count-next b false m k e = e

count-shift : (p : ℕ → Bool) (n : ℕ) → count_below p (suc n) ≡ (if p 0 then 1 else 0) + count_below (λ m. p (suc m)) n
count-shift p zero = count-first (p 0)
count-shift p (suc n) =
    count-next (if p 0 then 1 else 0) (p (suc n)) (count_below p (suc n)) (count_below (λ m. p (suc m)) n) (count-shift p n)

by-first : (b : Bool) (n : ℕ) → (if b then 1 else 0) + n ≡ cond b (1 + n) n
by-first true n = refl
by-first false n = omega arith

filled-more : {A : Type 0} (x : Option A) (xs : List (Option A))
    → filled_slots (x ∷ xs) ≡ cond (is_some x) (1 + filled_slots xs) (filled_slots xs)
unfolding slot_at
filled-more None xs = count-shift (λ m. is_some (slot_at (None ∷ xs) m)) (length xs) ∙ by-first false (filled_slots xs)
filled-more (Some x) xs = count-shift (λ m. is_some (slot_at (Some x ∷ xs) m)) (length xs) ∙ by-first true (filled_slots xs)

pub filled_count : {A : Type 0} (xs : List (Option A)) → filled_slots xs ≡ count_by is_some xs
filled_count xs = is_count_by filled_slots is_some refl filled-more xs

-- the legs that wait, one circuit further on
pub waiting-by : (s : State) (chan n : ℕ) (x : Option CircuitState) → slot_at s.circuits n ≡ x → HasOneLeg x →
    waiting_before s chan (n + 1) ≡ waiting_before s chan n
    ++ (if waits_on chan (leg_at (slot_at s.circuits n) 0) then first_leg_of n ∷ [] else [])
waiting-by s chan n None gone one = rw (add-one n, gone) refl
waiting-by s chan n (Some x) live one = rw (add-one n, live, one) refl

-- a place that is emptied
pub forgets_set : (xs : List (Option Relay)) (c : ℕ) → c < length xs → Forgets xs (slice_set xs c None) c
forgets_set xs c inside = record {
  count = ap length (sym (slot-set xs c None)) ∙ length-with xs c None;
  gone = ap (λ l. slot_at l c) (sym (slot-set xs c None)) ∙ slot_at-with xs c None c inside
      ∙ ap (λ b. if b then None else slot_at xs c) (self_eq c);
  others = λ d other.
      ap (λ l. slot_at l d) (sym (slot-set xs c None)) ∙ slot_at-with xs c None d inside
      ∙ ap (λ b. if b then None else slot_at xs d) other;
}

pub forgets_none : (xs : List (Option Relay)) (c : ℕ) → length xs ≤ c → Forgets xs xs c
forgets_none xs c beyond = record { count = refl; gone = slot_at-past xs c beyond; others = λ d other. refl }
