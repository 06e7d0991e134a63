-- Counts that are halved tick by tick.
use Rattle.std.proofs.Common.{◌≡◌, ℕ, ◌+◌, ◌-◌, ◌^◌, ◌<◌, ◌≤◌, List, [], ◌∷◌, map, refl, sym, ap, ◌∙◌, arith}
use Rattle.std.proofs.Math.Nat.{div-eq_of_lt, pow-le-pow_right}
use Rattle.std.proofs.lemmas.Nat.{shr-shr}
use Rattle.std.proofs.Math.Nat.{div-one}
use Rattle.ewma_sched.specs.declared.roster.ReadyLeg.{ReadyLeg}
use Rattle.ewma_sched.specs.Counts.{halved}
use Rattle.ewma_sched.specs.Order.{halved_ready_leg}

-- 64 ticks make any count 0
pub halved_away : (count ticks : ℕ) → count < 2 ^ 64 → 64 ≤ ticks → 0 ≡ halved count ticks
halved_away count ticks fits long =
    let more : 2 ^ 64 ≤ 2 ^ ticks = pow-le-pow_right {n = 2} (omega arith) long in
    sym (div-eq_of_lt (omega arith))

pub vanished : (count ticks : ℕ) → count < 2 ^ 64 → 64 ≤ ticks → halved count ticks ≡ 0
vanished count ticks fits long = sym (halved_away count ticks fits long)

-- halving tick by tick is halving at once
pub halved_on : (count a b : ℕ) → halved (halved count a) b ≡ halved count (a + b)
halved_on count a b = shr-shr count a b

-- the same by the ticks' numbers
pub halved_from : (count a b c : ℕ) → a ≤ b → b ≤ c → halved (halved count (b - a)) (c - b) ≡ halved count (c - a)
halved_from count a b c first second =
    let sum : b - a + (c - b) ≡ c - a = omega arith in
    halved_on count (b - a) (c - b) ∙ ap (halved count) sum

pub halved_none : (count ticks : ℕ) → ticks ≡ 0 → halved count ticks ≡ count
halved_none count ticks none = ap (halved count) none ∙ div-one count

pub legs_halved_none : (ticks : ℕ) → ticks ≡ 0 → (legs : List ReadyLeg) → map (halved_ready_leg ticks) legs ≡ legs
legs_halved_none ticks none [] = refl
legs_halved_none ticks none (leg ∷ legs) =
    λ i. record leg { count = halved_none leg.count ticks none i } ∷ legs_halved_none ticks none legs i
