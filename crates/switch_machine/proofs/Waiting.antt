-- The cells that wait, by the state and by the history.
use Rattle.std.proofs.Common.{◌≡◌, ℕ, ◌+◌, ◌&&◌, Bool, true, false, if◌then◌else◌, List, [], ◌∷◌, ◌++◌, length, Option, Some, None, refl, sym, ap, zero, suc}
use Rattle.std.specs.List.{AllByRecursion}
use Rattle.circuit_model.specs.Events.{CircuitCell}
use Rattle.circuit_model.specs.Rules.{Rules}
use Rattle.tr_io.specs.declared.step.Step.{Step}
use Rattle.switch_model.specs.Start.{SwitchStart}
use Rattle.switch_model.specs.Names.{Leg}
use Rattle.switch_model.specs.History.Legs.{port, on_channel, hops, holds_id}
use Rattle.switch_model.specs.History.Circuit.{is_live_circuit, sent}
use Rattle.switch_model.specs.Waiting.Queues.{queue}
use Rattle.switch_model.specs.Waiting.Counts.{some_in, waiting_of, waiting_below, waiting_legs}
use Rattle.switch_model.specs.History.Past.{past}
use Rattle.switch_model.specs.History.EdgePast.{edge_past}
use Rattle.switch_machine.specs.State.{LegState, CircuitState, State, slot_at}
use Rattle.switch_machine.specs.Machine.{leg_at, leg_in, legs_of}
use Rattle.switch_machine.specs.Stands.OneLeg.{LegAt}
use Rattle.switch_machine.specs.Stands.OneCircuit.{CircuitAt}
use Rattle.switch_machine.specs.Stands.{Stands}
use Rattle.switch_machine.specs.Calls.NextCell.{waits_on, waiting_in, waiting_before, waiting_on}
use Rattle.switch_model.proofs.Common.{drop-front, and-false}

abbrev pub queue_of : Option LegState → List CircuitCell
queue_of (Some leg) = leg.queue
queue_of None = []

queue-leg : (rules : Rules) (h : List Step) (c k : ℕ) (y : Option LegState) → is_live_circuit rules h c ≡ true
    → LegAt rules y k (past rules h c) (holds_id h c k) → queue rules h c k ≡ queue_of y
queue-leg rules h c k None alive at = rw (alive, at) refl
queue-leg rules h c k (Some leg) alive at = rw (alive, at.holds, ← at.cells) (drop-front (sent rules h c k) leg.queue)

queue-by : (start : SwitchStart) (s : State) (h : List Step) (c k : ℕ) (x : Option CircuitState) →
    CircuitAt start.rules s.last_closes x c (past start.rules h c) (λ j. holds_id h c j) (edge_past start.rules h c)
    → queue start.rules h c k ≡ queue_of (leg_at x k)
queue-by start s h c k None gone = rw gone.live refl
queue-by start s h c k (Some x) own = queue-leg start.rules h c k (slot_at x.legs k) own.live (own.legs k)

pub queue-said : (start : SwitchStart) (s : State) (h : List Step) → Stands start s h → (c k : ℕ)
    → queue start.rules h c k ≡ queue_of (leg_at (slot_at s.circuits c) k)
queue-said start s h st c k = queue-by start s h c k (slot_at s.circuits c) (st.circuits.circuit c)

-- whether a leg waits on a channel
port-leg : (rules : Rules) (h : List Step) (chan c k : ℕ) (y : Option LegState)
    → LegAt rules y k (past rules h c) (holds_id h c k) →
    (on_channel chan (port h c k) && some_in (queue_of y)) ≡ waits_on chan y
port-leg rules h chan c k None at = and-false (on_channel chan (port h c k))
port-leg rules h chan c k (Some leg) at = rw at.port refl

waits-by : (start : SwitchStart) (s : State) (h : List Step) (chan c k : ℕ) (x : Option CircuitState) →
    CircuitAt start.rules s.last_closes x c (past start.rules h c) (λ j. holds_id h c j) (edge_past start.rules h c) →
    (on_channel chan (port h c k) && some_in (queue_of (leg_at x k))) ≡ waits_on chan (leg_at x k)
waits-by start s h chan c k None gone = and-false (on_channel chan (port h c k))
waits-by start s h chan c k (Some x) own = port-leg start.rules h chan c k (slot_at x.legs k) (own.legs k)

waits-said : (start : SwitchStart) (s : State) (h : List Step) → Stands start s h → (chan c k : ℕ) →
    (on_channel chan (port h c k) && some_in (queue start.rules h c k)) ≡ waits_on chan (leg_at (slot_at s.circuits c) k)
waits-said start s h st chan c k =
    rw (queue-said start s h st c k) (waits-by start s h chan c k (slot_at s.circuits c) (st.circuits.circuit c))

-- the legs that wait
of-said : (start : SwitchStart) (s : State) (h : List Step) → Stands start s h → (chan c n : ℕ)
    → waiting_of start.rules h chan c n ≡ waiting_in chan c (slot_at s.circuits c) n
of-said start s h st chan c zero = refl
of-said start s h st chan c (suc k) = rw (of-said start s h st chan c k, waits-said start s h st chan c k) refl

none-in : (chan c n : ℕ) → waiting_in chan c None n ≡ []
none-in chan c zero = refl
none-in chan c (suc k) = rw (none-in chan c k) refl

all-legs : (start : SwitchStart) (s : State) (h : List Step) (chan c : ℕ) (x : Option CircuitState) →
    CircuitAt start.rules s.last_closes x c (past start.rules h c) (λ j. holds_id h c j) (edge_past start.rules h c) →
    waiting_in chan c x (hops h c + 1) ≡ waiting_in chan c x (legs_of x)
all-legs start s h chan c None gone = none-in chan c (hops h c + 1)
all-legs start s h chan c (Some x) own = ap (waiting_in chan c (Some x)) (sym own.hops)

below-said : (start : SwitchStart) (s : State) (h : List Step) → Stands start s h → (chan n : ℕ)
    → waiting_below start.rules h chan n ≡ waiting_before s chan n
below-said start s h st chan zero = refl
below-said start s h st chan (suc c) =
    rw (
      below-said start s h st chan c,
      of-said start s h st chan c (hops h c + 1),
      all-legs start s h chan c (slot_at s.circuits c) (st.circuits.circuit c),
    ) refl

pub waiting-said : (start : SwitchStart) (s : State) (h : List Step) → Stands start s h → (chan : ℕ)
    → waiting_legs start.rules h chan ≡ waiting_on s chan
waiting-said start s h st chan = rw (← st.numbers.circuits) (below-said start s h st chan (length s.circuits))

-- each of them is in the state, and has a cell
abbrev pub Waits : State → ℕ → Leg → Type 0
Waits s chan leg = waits_on chan (leg_in s leg) ≡ true

all-append : (P : Leg → Type 0) (xs ys : List Leg) → AllByRecursion P xs → AllByRecursion P ys → AllByRecursion P (xs ++ ys)
all-append P [] ys f g = g
all-append P (x ∷ xs) ys f g = (f.0, all-append P xs ys f.1 g)

all-when : (s : State) (chan c k : ℕ) (b : Bool) → waits_on chan (leg_at (slot_at s.circuits c) k) ≡ b
    → AllByRecursion (Waits s chan) (if b then record { circ = c; number = k } ∷ [] else [])
all-when s chan c k true waits = (waits, tt)
all-when s chan c k false waits = tt

all-in : (s : State) (chan c n : ℕ) → AllByRecursion (Waits s chan) (waiting_in chan c (slot_at s.circuits c) n)
all-in s chan c zero = tt
all-in s chan c (suc k) =
    all-append (Waits s chan) (waiting_in chan c (slot_at s.circuits c) k) _ (all-in s chan c k)
    (all-when s chan c k (waits_on chan (leg_at (slot_at s.circuits c) k)) refl)

all-before : (s : State) (chan n : ℕ) → AllByRecursion (Waits s chan) (waiting_before s chan n)
all-before s chan zero = tt
all-before s chan (suc c) =
    all-append (Waits s chan) (waiting_before s chan c) _ (all-before s chan c) (all-in s chan c (legs_of (slot_at s.circuits c)))

pub all-waiting : (s : State) (chan : ℕ) → AllByRecursion (Waits s chan) (waiting_on s chan)
all-waiting s chan = all-before s chan (length s.circuits)
