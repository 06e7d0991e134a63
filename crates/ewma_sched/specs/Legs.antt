-- What contracts see of a `Sched`: a finite map from legs to their channel, their count at the tick in
-- force and whether they have something queued. A leg is named by its circuit's number and its own.
use Rattle.std.specs.Prelude.{◌≡◌, ℕ, ◌-◌, ◌≤◌, Bool, true, false, map, Option, Some, None, refl}
use Rattle.std.specs.Coded.{Coded, code_by, coded×, coded_ℕ, coded_bool}
use Rattle.std.specs.FinMap as finite
use Rattle.hashed_maps.specs.Pairs.{Pair, pair_cmp}
use Rattle.ewma_sched.specs.Counts.{halved, charged}

abbrev pub LegName : Type 0
LegName = Pair

pub record ScheduledLeg : Type 0 where
  pub chan : ℕ
  pub count : ℕ
  pub has_cells : Bool

pub record SchedState : Type 0 where
  pub legs : finite.FinMap pair_cmp ScheduledLeg
  pub tick : ℕ

abbrev pub leg_code : Coded ScheduledLeg
leg_code =
    code_by (ℕ × (ℕ × Bool)) (coded× coded_ℕ (coded× coded_ℕ coded_bool))
    (λ x. (x.chan, (x.count, x.has_cells))) (λ p. record { chan = p.0; count = p.1.0; has_cells = p.1.1 }) (λ _. refl)

abbrev pub sched_code : Coded SchedState
sched_code =
    code_by (finite.FinMap pair_cmp ScheduledLeg × ℕ) (coded× (finite.code (coded× coded_ℕ coded_ℕ) leg_code) coded_ℕ)
    (λ s. (s.legs, s.tick)) (λ p. record { legs = p.0; tick = p.1 }) (λ _. refl)

-- What is known of a leg; nothing where it is not there.
abbrev pub leg_at : SchedState → LegName → Option ScheduledLeg
leg_at s leg = finite.get s.legs leg

-- The same with other legs.
abbrev pub with_leg : SchedState → LegName → ScheduledLeg → SchedState
with_leg s leg x = record s { legs = finite.insert s.legs leg x }

abbrev pub without_leg : SchedState → LegName → SchedState
without_leg s leg = record s { legs = finite.remove s.legs leg }

abbrev pub halved_leg : ℕ → ScheduledLeg → ScheduledLeg
halved_leg ticks x = record x { count = halved x.count ticks }

-- Every leg after so many ticks.
abbrev pub halved_legs : ℕ → finite.FinMap pair_cmp ScheduledLeg → finite.FinMap pair_cmp ScheduledLeg
halved_legs ticks legs = finite.from_entries (map (λ e. (e.0, halved_leg ticks e.1)) (finite.entries legs))

-- The tick in force is this one from now on: each tick since the last halves every count.
unfoldable pub at_tick : SchedState → ℕ → SchedState
at_tick s tick = record { legs = halved_legs (tick - s.tick) s.legs; tick = tick }

-- A leg that joins a channel: its count is 0, and it has nothing queued.
abbrev pub new_leg : ℕ → ScheduledLeg
new_leg chan = record { chan = chan; count = 0; has_cells = false }

-- What becomes of a leg, where it is there.
abbrev pub with_leg_as : (ScheduledLeg → ScheduledLeg) → SchedState → LegName → Option ScheduledLeg → SchedState
with_leg_as f s leg None = s
with_leg_as f s leg (Some x) = with_leg s leg (f x)

abbrev pub with_leg_by : (ScheduledLeg → ScheduledLeg) → SchedState → LegName → SchedState
with_leg_by f s leg = with_leg_as f s leg (leg_at s leg)

abbrev pub charged_leg : ScheduledLeg → ScheduledLeg
charged_leg x = record x { count = charged x.count }

abbrev pub queued_leg : Bool → ScheduledLeg → ScheduledLeg
queued_leg some x = record x { has_cells = some }

-- The leg has something queued, on this channel.
pub record WaitsOn (channel : ℕ) (x : ScheduledLeg) : Type 0 where
  pub chan : x.chan ≡ channel
  pub has_cells : x.has_cells ≡ true

-- A leg with this name and state is served no later than another: it has the least count, of those with
-- that the least circuit number, and of those with that the least leg number.
pub record IsServedFirst (leg : LegName) (x : ScheduledLeg) (other : LegName) (y : ScheduledLeg) : Type 0 where
  pub count : x.count ≤ y.count
  pub circuit : x.count ≡ y.count → leg.0 ≤ other.0
  pub number : x.count ≡ y.count → leg.0 ≡ other.0 → leg.1 ≤ other.1

-- The leg of a channel that is served next: of those that have something queued there it is served
-- first.
pub record IsNext (s : SchedState) (chan : ℕ) (leg : LegName) : Type 0 where
  pub state : ScheduledLeg
  pub there : leg_at s leg ≡ Some state
  pub waits : WaitsOn chan state
  pub first : (other : LegName) (y : ScheduledLeg) → leg_at s other ≡ Some y → WaitsOn chan y
      → IsServedFirst leg state other y

-- No leg of the channel has something queued.
abbrev pub NoneWaits : SchedState → ℕ → Type 0
NoneWaits s chan = (leg : LegName) (x : ScheduledLeg) → leg_at s leg ≡ Some x → WaitsOn chan x → ⊥
