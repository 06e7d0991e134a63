-- How the search for the leg that is served next goes on.
use Rattle.std.proofs.Common.{◌≡◌, ◌+◌, ◌++◌, ℕ, Bool, true, false, nat_lt, [], ◌∷◌, Option, Some, None, IfSome, if◌then◌else◌, refl, ap, ◌∙◌, append-nil, arith}
use Rattle.switch_model.specs.Waiting.Counts.{least_of}
use Rattle.switch_machine.specs.State.{State, slot_at}
use Rattle.switch_machine.specs.Machine.{leg_at}
use Rattle.switch_machine.specs.Calls.NextCell.{waits_on, cell_count_in, waiting_before}
use Rattle.switch_machine.proofs.PlainLists.{better, least_of-last}
use Rattle.switch_core.proofs.Gone.{waiting-by}
use Rattle.switch_core.specs.declared.pick.WaitingLeg.{WaitingLeg}
use Rattle.switch_core.specs.Picking.{better_of, first_leg_of, leg_of, HasOneLeg, IsWaiting, Picks}

further : (s : State) (new_tick n : ℕ) (least : Option WaitingLeg) → IfSome least (IsWaiting s new_tick n)
    → IfSome least (IsWaiting s new_tick (n + 1))
further s new_tick n None waits = tt
further s new_tick n (Some least) waits = record { inside = omega (arith, waits.inside); count = waits.count }

either : (P : WaitingLeg → Type 0) (b : Bool) (x y : WaitingLeg) → P x → P y → P (if b then x else y)
either P true x y px py = px
either P false x y px py = py

chosen : (s : State) (new_tick n : ℕ) (least : Option WaitingLeg) (next : WaitingLeg) → IfSome least (IsWaiting s new_tick n)
    → IsWaiting s new_tick (n + 1) next → IsWaiting s new_tick (n + 1) (better_of least next)
chosen s new_tick n None next waits is = is
chosen s new_tick n (Some least) next waits is =
    either (IsWaiting s new_tick (n + 1)) (nat_lt next.count least.count) next least is (further s new_tick n (Some least) waits)

either-leg : (b : Bool) (x y : WaitingLeg)
    → (if b then first_leg_of x.number else first_leg_of y.number) ≡ first_leg_of (if b then x else y).number
either-leg true x y = refl
either-leg false x y = refl

same_choice : (s : State) (new_tick n : ℕ) (least : Option WaitingLeg) (next : WaitingLeg) → IfSome least (IsWaiting s new_tick n)
    → next.count ≡ cell_count_in s new_tick (first_leg_of next.number) →
    better (cell_count_in s new_tick) (leg_of least) (first_leg_of next.number) ≡ first_leg_of (better_of least next).number
same_choice s new_tick n None next waits count = refl
same_choice s new_tick n (Some least) next waits count =
    let same : nat_lt (cell_count_in s new_tick (first_leg_of next.number)) (cell_count_in s new_tick (first_leg_of least.number))
    ≡ nat_lt next.count least.count = rw (waits.count, count) refl in
    ap (λ (b : Bool). if b then first_leg_of next.number else first_leg_of least.number) same
    ∙ either-leg (nat_lt next.count least.count) next least

-- no circuit was looked at
pub none_yet : (s : State) (chan new_tick : ℕ)
    → Picks s new_tick 0 None (least_of (cell_count_in s new_tick) (waiting_before s chan 0))
none_yet s chan new_tick = record { same = refl; waits = tt }

-- a circuit that doesn't wait
pub one_quiet : (s : State) (chan new_tick n : ℕ) (least : Option WaitingLeg) → HasOneLeg (slot_at s.circuits n)
    → waits_on chan (leg_at (slot_at s.circuits n) 0) ≡ false →
    Picks s new_tick n least (least_of (cell_count_in s new_tick) (waiting_before s chan n))
    → Picks s new_tick (n + 1) least (least_of (cell_count_in s new_tick) (waiting_before s chan (n + 1)))
one_quiet s chan new_tick n least one quiet picks = record {
  same =
      ap (least_of (cell_count_in s new_tick))
      (waiting-by s chan n (slot_at s.circuits n) refl one
      ∙ ap (λ b. waiting_before s chan n ++ (if b then first_leg_of n ∷ [] else [])) quiet
      ∙ append-nil (waiting_before s chan n))
      ∙ picks.same;
  waits = further s new_tick n least picks.waits;
}

-- a circuit that waits
pub one_waits : (s : State) (chan new_tick n count : ℕ) (least : Option WaitingLeg) → HasOneLeg (slot_at s.circuits n)
    → waits_on chan (leg_at (slot_at s.circuits n) 0) ≡ true →
    count ≡ cell_count_in s new_tick (first_leg_of n)
    → Picks s new_tick n least (least_of (cell_count_in s new_tick) (waiting_before s chan n)) →
    Picks s new_tick (n + 1) (Some (better_of least (record { number = n; count = count })))
    (least_of (cell_count_in s new_tick) (waiting_before s chan (n + 1)))
one_waits s chan new_tick n count least one waits counted picks = record {
  same =
      ap (least_of (cell_count_in s new_tick))
      (waiting-by s chan n (slot_at s.circuits n) refl one
      ∙ ap (λ b. waiting_before s chan n ++ (if b then first_leg_of n ∷ [] else [])) waits)
      ∙ least_of-last (cell_count_in s new_tick) (waiting_before s chan n) (first_leg_of n)
      ∙ ap (λ o. Some (better (cell_count_in s new_tick) o (first_leg_of n))) picks.same
      ∙ ap Some (same_choice s new_tick n least (record { number = n; count = count }) picks.waits counted);
  waits = chosen s new_tick n least (record { number = n; count = count }) picks.waits
      (record { inside = omega arith; count = counted });
}
