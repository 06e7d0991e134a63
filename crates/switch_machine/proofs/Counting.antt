-- Counts that are halved late, and the leg with the least.
use Rattle.std.proofs.Common.{◌≡◌, ℕ, ◌+◌, ◌-◌, ◌/◌, ◌^◌, ◌≤◌, true, max, List, [], ◌∷◌, Option, Some, None, refl, sym, ◌∙◌, ap, arith}
use Rattle.std.specs.List.{AllByRecursion}
use Rattle.std.proofs.Math.Nat.{zero-div, div-one, div-div-eq-div-mul}
use Rattle.std.proofs.Math.Pow.{pow-add}
use Rattle.tr_io.specs.declared.step.Step.{Step}
use Rattle.switch_model.specs.Start.{SwitchStart}
use Rattle.switch_model.specs.Names.{Leg}
use Rattle.switch_model.specs.Waiting.Counts.{tick, halved, cell_count, count_at, least_of, pick}
use Rattle.switch_machine.specs.State.{LegState, State}
use Rattle.switch_machine.specs.Machine.{leg_in}
use Rattle.switch_machine.specs.Stands.Counts.{CountAt, CountStands}
use Rattle.switch_machine.specs.Stands.{Stands}
use Rattle.switch_machine.specs.Calls.NextCell.{count_of, count_of_found, waits_on, cell_count_in, waiting_on, picked_leg}
use Rattle.switch_machine.proofs.Waiting.{Waits, all-waiting, waiting-said}
use Rattle.switch_model.proofs.Least.{lesser-same, least-has}

halved-twice : (n a b : ℕ) → halved (halved n a) b ≡ halved n (a + b)
halved-twice n a b = div-div-eq-div-mul n (2 ^ a) (2 ^ b) ∙ ap (λ m. n / m) (sym (pow-add 2 a b))

pub halved-none : (ticks : ℕ) → halved 0 ticks ≡ 0
halved-none ticks = zero-div (2 ^ ticks)

pub halved-never : (n : ℕ) → halved n 0 ≡ n
halved-never n = div-one n

ticks-between : (since now new_tick : ℕ) → since ≤ now → (now - since) + (new_tick - now) ≡ max now new_tick - since
ticks-between since now new_tick before = omega arith

-- a count at a later tick
pub later-by : (leg : LegState) (n now new_tick : ℕ) → CountStands leg n now
    → halved n (new_tick - now) ≡ count_of (max now new_tick) leg
later-by leg n now new_tick own =
    rw own.count
    (halved-twice leg.count (now - leg.counted_at) (new_tick - now)
    ∙ ap (halved leg.count) (ticks-between leg.counted_at now new_tick own.since))

pub count-later : (x : Option LegState) (n now new_tick : ℕ) → CountAt x n now
    → CountAt x (halved n (new_tick - now)) (max now new_tick)
count-later None n now new_tick own = tt
count-later (Some leg) n now new_tick own = record {
  since = let before : leg.counted_at ≤ now = own.since in omega arith;
  count = later-by leg n now new_tick own;
}

-- the least of counts that agree
abbrev pub Agree : (Leg → ℕ) → (Leg → ℕ) → Leg → Type 0
Agree f g leg = f leg ≡ g leg

least-same : (f g : Leg → ℕ) (legs : List Leg) → AllByRecursion (Agree f g) legs → least_of f legs ≡ least_of g legs
least-same f g [] all = refl
least-same f g (leg ∷ legs) all =
    rw (least-same f g legs all.1) (ap Some (lesser-same f g leg (least_of g legs) all.0 (least-has (Agree f g) g legs all.1)))

-- the leg that is picked
counted-by : (x : Option LegState) (chan n now new_tick : ℕ) → waits_on chan x ≡ true → CountAt x n now
    → halved n (new_tick - now) ≡ count_of_found (max now new_tick) x
counted-by None chan n now new_tick waits own = cc
counted-by (Some leg) chan n now new_tick waits own = later-by leg n now new_tick own

agree-on : (start : SwitchStart) (s : State) (h : List Step) → Stands start s h → (chan new_tick : ℕ) (legs : List Leg)
    → AllByRecursion (Waits s chan) legs →
    AllByRecursion (Agree (count_at start.rules h new_tick) (cell_count_in s new_tick)) legs
agree-on start s h st chan new_tick [] all = tt
agree-on start s h st chan new_tick (leg ∷ legs) all = (
  rw st.numbers.tick
      (counted-by (leg_in s leg) chan (cell_count start.rules h leg.circ leg.number) (tick h) new_tick all.0
      (st.counts.counts leg)),
  agree-on start s h st chan new_tick legs all.1,
)

pub picked-said : (start : SwitchStart) (s : State) (h : List Step) → Stands start s h → (chan new_tick : ℕ)
    → picked_leg s chan new_tick ≡ pick start.rules h chan new_tick
picked-said start s h st chan new_tick =
    rw (waiting-said start s h st chan)
    (sym (least-same (count_at start.rules h new_tick) (cell_count_in s new_tick) (waiting_on s chan)
    (agree-on start s h st chan new_tick (waiting_on s chan) (all-waiting s chan))))

pub picked-waits : (s : State) (chan new_tick : ℕ) (leg : Leg) → picked_leg s chan new_tick ≡ Some leg → Waits s chan leg
picked-waits s chan new_tick leg found =
    least-has (Waits s chan) (cell_count_in s new_tick) (waiting_on s chan) (all-waiting s chan) leg found
