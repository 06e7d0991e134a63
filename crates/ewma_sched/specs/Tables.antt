-- What the code keeps of the legs, and what that means.
use Rattle.std.specs.Prelude.{◌≡◌, ◌≢◌, ℕ, ◌+◌, ◌-◌, ◌≤◌, ◌==◌, ◌&&◌, not, Bool, true, if◌then◌else◌, List, map, Option, Some, None, count_by}
use Rattle.std.specs.List.{All, sum_by}
use Rattle.std.specs.Map.{lookup, values_of}
use Rattle.std.specs.FinMap as finite
use Rattle.std.specs.VecDeque.{deque_len, deque_capacity}
use Rattle.hashed_maps.specs.Pairs.{pair_eq}
use Rattle.ewma_sched.specs.declared.roster.Roster.{Roster}
use Rattle.ewma_sched.specs.declared.roster.ReadyLeg.{ReadyLeg}
use Rattle.ewma_sched.specs.declared.legs.CountedLeg.{CountedLeg}
use Rattle.ewma_sched.specs.Counts.{halved, charged}
use Rattle.ewma_sched.specs.Legs.{LegName, ScheduledLeg, SchedState, IsServedFirst}
use Rattle.ewma_sched.specs.Order.{IsInOrder}

abbrev pub Legs : Type 0
Legs = List (LegName × CountedLeg)

abbrev pub Rosters : Type 0
Rosters = List (ℕ × Roster)

abbrev pub leg_in : Legs → LegName → Option CountedLeg
leg_in legs leg = lookup (pair_eq leg) legs

abbrev pub roster_in : Rosters → ℕ → Option Roster
roster_in rosters chan = lookup (λ n. chan == n) rosters

-- A leg's count at a tick: each tick since that of its count halves it.
abbrev pub state_of : ℕ → CountedLeg → ScheduledLeg
state_of tick x =
    record { chan = x.chan; count = halved x.count.value (tick - x.count.tick); has_cells = x.has_cells }

-- What the kept legs mean at a tick.
unfoldable pub states : Legs → ℕ → SchedState
states legs tick = record { legs = finite.from_entries (map (λ e. (e.0, state_of tick e.1)) legs); tick = tick }

abbrev pub has_name : LegName → ReadyLeg → Bool
has_name leg w = pair_eq leg (w.circ, w.number)

-- How often a leg stands among those that wait on a channel.
abbrev pub waits_on : ℕ → Option CountedLeg → ℕ
waits_on chan None = 0
waits_on chan (Some x) = if (x.chan == chan) && x.has_cells then 1 else 0

-- 1 for a leg of the channel that has nothing queued.
abbrev pub idle_count : ℕ → CountedLeg → ℕ
idle_count chan x = if (x.chan == chan) && not x.has_cells then 1 else 0

abbrev pub idle_of : ℕ → Option CountedLeg → ℕ
idle_of chan None = 0
idle_of chan (Some x) = idle_count chan x

abbrev pub idle_on : ℕ → Legs → ℕ
idle_on chan legs = sum_by (idle_count chan) (values_of legs)

-- The leg has this count at the tick.
abbrev pub HasCount : Option CountedLeg → ℕ → ℕ → Type 0
HasCount None tick count = ⊥
HasCount (Some x) tick count = (x.count.tick ≤ tick) × (count ≡ halved x.count.value (tick - x.count.tick))

-- The roster of a channel: the legs that have something queued there, each once, with their counts at the
-- roster's tick, in the order in which they are served, and a spare place for each that has not.
pub record IsRoster (legs : Legs) (current_tick chan : ℕ) (roster : Roster) : Type 0 where
  pub tick : roster.tick ≤ current_tick
  pub order : IsInOrder roster.ready_queue.items
  pub names : (leg : LegName) → count_by (has_name leg) roster.ready_queue.items ≡ waits_on chan (leg_in legs leg)
  pub counts : All (λ w. HasCount (leg_in legs (w.circ, w.number)) roster.tick w.count) roster.ready_queue.items
  pub idle : roster.idle ≡ idle_on chan legs
  pub room : deque_len roster.ready_queue + roster.idle ≤ deque_capacity roster.ready_queue

-- No leg is on the channel.
pub record IsWithoutLegs (legs : Legs) (chan : ℕ) : Type 0 where
  pub none : (leg : LegName) (x : CountedLeg) → leg_in legs leg ≡ Some x → x.chan ≢ chan
  pub idle : idle_on chan legs ≡ 0

-- A channel without a roster has no legs.
abbrev pub KeepsRoster : Legs → ℕ → ℕ → Option Roster → Type 0
KeepsRoster legs tick chan None = IsWithoutLegs legs chan
KeepsRoster legs tick chan (Some roster) = IsRoster legs tick chan roster

pub record IsTable (legs : Legs) (rosters : Rosters) (current_tick : ℕ) : Type 0 where
  pub ticks : (leg : LegName) (x : CountedLeg) → leg_in legs leg ≡ Some x → x.count.tick ≤ current_tick
  pub keeps : (chan : ℕ) → KeepsRoster legs current_tick chan (roster_in rosters chan)

-- One leg is another thing, or there or gone, and every other leg is as it was.
abbrev pub Becomes : Legs → Legs → LegName → Option CountedLeg → Type 0
Becomes old new leg leg_after =
    (other : LegName) → leg_in new other ≡ (if pair_eq leg other then leg_after else leg_in old other)

-- The same, with what the leg was and how many have nothing queued.
pub record Changes (old new : Legs) (leg : LegName) (leg_before leg_after : Option CountedLeg) : Type 0 where
  pub before : leg_in old leg ≡ leg_before
  pub after : Becomes old new leg leg_after
  pub idle : (chan : ℕ) → idle_on chan new + idle_of chan leg_before ≡ idle_on chan old + idle_of chan leg_after

-- A leg that has something queued from now on, or has not.
abbrev pub queued_as : Bool → CountedLeg → CountedLeg
queued_as some x = record x { has_cells = some }

-- Every leg is as it was.
pub record SameLegs (old new : Legs) : Type 0 where
  pub legs : (leg : LegName) → leg_in new leg ≡ leg_in old leg
  pub idle : (chan : ℕ) → idle_on chan new ≡ idle_on chan old

-- The roster is there, with a spare place for one more leg.
abbrev pub RosterHasRoom : Option Roster → Type 0
RosterHasRoom None = ⊥
RosterHasRoom (Some roster) = deque_len roster.ready_queue + roster.idle + 1 ≤ deque_capacity roster.ready_queue

-- Each roster has room for one more leg where it had.
abbrev pub KeepsRoom : Rosters → Rosters → Type 0
KeepsRoom old new = (chan : ℕ) → RosterHasRoom (roster_in old chan) → RosterHasRoom (roster_in new chan)

-- A leg of the channel that has something queued.
pub record Waits (channel : ℕ) (x : CountedLeg) : Type 0 where
  pub chan : x.chan ≡ channel
  pub has_cells : x.has_cells ≡ true

-- Of the legs that have something queued on the channel this one is served first.
pub record IsFirst (legs : Legs) (tick chan : ℕ) (leg : LegName) : Type 0 where
  pub state : CountedLeg
  pub there : leg_in legs leg ≡ Some state
  pub waits : Waits chan state
  pub first : (other : LegName) (y : CountedLeg) → leg_in legs other ≡ Some y → Waits chan y
      → IsServedFirst leg (state_of tick state) other (state_of tick y)

abbrev pub NoneWaitsOn : Legs → ℕ → Type 0
NoneWaitsOn legs chan = (leg : LegName) (x : CountedLeg) → leg_in legs leg ≡ Some x → Waits chan x → ⊥

-- One cell more is charged to the leg at the tick.
abbrev pub charged_at : ℕ → CountedLeg → CountedLeg
charged_at tick x =
    record x { count = record { value = charged (halved x.count.value (tick - x.count.tick)); tick = tick } }

pub record Charges (old new : Legs) (tick : ℕ) (leg : LegName) : Type 0 where
  pub state : CountedLeg
  pub change : Changes old new leg (Some state) (Some (charged_at tick state))
