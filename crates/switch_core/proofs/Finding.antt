-- The search for the circuit that has a CircID.
use Rattle.std.proofs.Common.{◌≡◌, ℕ, ◌+◌, ◌-◌, ◌<◌, Bool, true, false, if◌then◌else◌, length, Option, Some, None, refl, sym, ◌∙◌, subst, add-one, add-suc, add-zero, arith, zero, suc}
use Rattle.switch_model.specs.Names.{Leg}
use Rattle.switch_machine.specs.Calls.Take.{leg_below, leg_before, found_leg}
use Rattle.switch_machine.specs.Machine.{leg_at, legs_of, has_port}
use Rattle.switch_machine.specs.State.{CircuitState, State, slot_at}
use Rattle.switch_core.specs.Picking.{first_leg_of, HasOneLeg}

below-by : (chan id n : ℕ) (x : Option CircuitState) → HasOneLeg x
    → leg_below chan id n x (legs_of x) ≡ (if has_port chan id (leg_at x 0) then Some (first_leg_of n) else None)
below-by chan id n None one = refl
below-by chan id n (Some x) one = rw one refl

-- a circuit without it
pub one_further : (s : State) (chan id n : ℕ) (x : Option CircuitState) (b : Bool) → slot_at s.circuits n ≡ x → HasOneLeg x
    → b ≡ has_port chan id (leg_at x 0) → b ≡ false → leg_before s chan id n ≡ None →
    leg_before s chan id (n + 1) ≡ None
one_further s chan id n x b live one is false_is before =
    let away : has_port chan id (leg_at x 0) ≡ false = sym is ∙ false_is in
    rw (add-one n, before, live, below-by chan id n x one, away) refl

later : (s : State) (chan id m k : ℕ) (leg : Leg) → leg_before s chan id m ≡ Some leg → leg_before s chan id (m + k) ≡ Some leg
later s chan id m zero leg found = rw add-zero found
later s chan id m (suc k) leg found = rw (add-suc m k, later s chan id m k leg found) refl

-- the first with it
pub first_with : (s : State) (chan id n : ℕ) (x : Option CircuitState) (b : Bool) → slot_at s.circuits n ≡ x → HasOneLeg x
    → b ≡ has_port chan id (leg_at x 0) → b ≡ true → leg_before s chan id n ≡ None → n < length s.circuits →
    found_leg s chan id ≡ Some (first_leg_of n)
first_with s chan id n x b live one is true_is before inside =
    let here : has_port chan id (leg_at x 0) ≡ true = sym is ∙ true_is in
    let found : leg_before s chan id (suc n) ≡ Some (first_leg_of n) = rw (before, live, below-by chan id n x one, here) refl in
    let whole : suc n + (length s.circuits - suc n) ≡ length s.circuits = omega arith in
    subst (λ m. leg_before s chan id m ≡ Some (first_leg_of n)) whole
    (later s chan id (suc n) (length s.circuits - suc n) (first_leg_of n) found)
