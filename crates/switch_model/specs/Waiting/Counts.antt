-- Decaying cell counts (after Tor's EWMA, in fixed-point numbers; own rule): each cell that is sent
-- adds to its leg's count, each tick halves it, and the leg with the least count is served next.
use Rattle.std.specs.Prelude.{ℕ, ◌+◌, ◌-◌, ◌/◌, ◌^◌, ◌&&◌, zero, suc, max, min, nat_lt, List, [], ◌∷◌, ◌++◌, Bool, if◌then◌else◌, Option, Some, None}
use Rattle.circuit_model.specs.Rules.{Rules}
use Rattle.tr_io.specs.declared.step.Step.{Step}
use Rattle.tr_io.specs.declared.step.Step.TheVariants.{NextCell}
use Rattle.switch_model.specs.Limits.{cell_charge, count_limit}
use Rattle.switch_model.specs.Names.{Leg, is_leg}
use Rattle.switch_model.specs.History.Legs.{port, on_channel, circuits, hops, at}
use Rattle.switch_model.specs.History.Circuit.{is_live_circuit}
use Rattle.switch_model.specs.Waiting.Queues.{queue}

-- The tick in force: the greatest that was given so far.
abbrev pub tick : List Step → ℕ
tick [] = 0
tick (NextCell chan new_tick answer ∷ h) = max (tick h) new_tick
tick (s ∷ h) = tick h

-- A count after so many ticks: each halves it, rounded down.
abbrev pub halved : ℕ → ℕ → ℕ
halved count ticks = count / 2 ^ ticks

-- A count after one more cell.
abbrev pub charged : ℕ → ℕ
charged count = min (count + cell_charge) count_limit

-- The decaying count of leg k of circuit c at the tick in force. It starts at 0.
abbrev pub cell_count : Rules → List Step → ℕ → ℕ → ℕ
cell_count rules [] c k = 0
cell_count rules (NextCell chan new_tick None ∷ h) c k = halved (cell_count rules h c k) (new_tick - tick h)
cell_count rules (NextCell chan new_tick (Some cell) ∷ h) c k =
    if is_leg c k (at h chan.0 cell.circ) && is_live_circuit rules h c
    then charged (halved (cell_count rules h c k) (new_tick - tick h))
    else halved (cell_count rules h c k) (new_tick - tick h)
cell_count rules (s ∷ h) c k = cell_count rules h c k

-- The same where this tick is given next.
abbrev pub count_at : Rules → List Step → ℕ → Leg → ℕ
count_at rules h new_tick leg = halved (cell_count rules h leg.circ leg.number) (new_tick - tick h)

abbrev pub some_in : {A : Type 0} → List A → Bool
some_in [] = Bool.false
some_in (x ∷ xs) = Bool.true

-- The legs of a channel on which cells wait, by circuit number and then by leg number.

-- One leg, if it waits.
abbrev pub waiting_leg : Rules → List Step → ℕ → ℕ → ℕ → List Leg
waiting_leg rules h chan c k =
    if on_channel chan (port h c k) && some_in (queue rules h c k) then record { circ = c; number = k } ∷ [] else []

-- The first legs of a circuit.
abbrev pub waiting_of : Rules → List Step → ℕ → ℕ → ℕ → List Leg
waiting_of rules h chan c zero = []
waiting_of rules h chan c (suc k) = waiting_of rules h chan c k ++ waiting_leg rules h chan c k

-- The legs of the first circuits.
abbrev pub waiting_below : Rules → List Step → ℕ → ℕ → List Leg
waiting_below rules h chan zero = []
waiting_below rules h chan (suc c) = waiting_below rules h chan c ++ waiting_of rules h chan c (hops h c + 1)

-- All of them.
abbrev pub waiting_legs : Rules → List Step → ℕ → List Leg
waiting_legs rules h chan = waiting_below rules h chan (circuits h)

-- This leg, unless the other has a lesser count.
abbrev pub lesser : (Leg → ℕ) → Leg → Option Leg → Leg
lesser count leg None = leg
lesser count leg (Some other) = if nat_lt (count other) (count leg) then other else leg

-- The first of some legs with the least count.
abbrev pub least_of : (Leg → ℕ) → List Leg → Option Leg
least_of count [] = None
least_of count (leg ∷ legs) = Some (lesser count leg (least_of count legs))

-- The leg of a channel that is served next, where this tick is given: of those on which cells wait
-- the one with the least count, then the least circuit number, then the least leg number.
abbrev pub pick : Rules → List Step → ℕ → ℕ → Option Leg
pick rules h chan new_tick = least_of (count_at rules h new_tick) (waiting_legs rules h chan)
