-- A leg that has something queued stands in its roster.
use Rattle.std.proofs.Common.{◌≡◌, ℕ, ◌-◌, ◌<◌, ◌≤◌, true, length, get_or, Some, count_by, sym, ap, ◌∙◌, subst, arith}
use Rattle.std.specs.List.{Contains}
use Rattle.hashed_maps.proofs.Keys.{pair_keys, same_key}
use Rattle.ewma_sched.specs.declared.roster.Roster.{Roster}
use Rattle.ewma_sched.specs.declared.roster.ReadyLeg.{ReadyLeg}
use Rattle.ewma_sched.specs.declared.legs.CountedLeg.{CountedLeg}
use Rattle.ewma_sched.specs.Counts.{halved}
use Rattle.ewma_sched.specs.Legs.{LegName}
use Rattle.ewma_sched.specs.Tables.{Legs, has_name, leg_in, waits_on, HasCount, IsRoster}
use Rattle.ewma_sched.proofs.Names.{some_passes}
use Rattle.ewma_sched.proofs.Weights.{waits_one}

-- a leg as it waits at a tick
abbrev pub ready_at : LegName → CountedLeg → ℕ → ReadyLeg
ready_at leg x tick =
    record { count = halved x.count.value (tick - x.count.tick); circ = leg.0; number = leg.1 }

-- a leg that has something queued stands in the roster

pub record StandsOnRoster (roster : Roster) (leg : LegName) (x : CountedLeg) : Type 0 where
  pub place : ℕ
  pub within : place < length roster.ready_queue.items
  pub entry : (d : ReadyLeg) → get_or roster.ready_queue.items place d ≡ ready_at leg x roster.tick
  pub counted : x.count.tick ≤ roster.tick

pub stands : (legs : Legs) (chan now : ℕ) (roster : Roster) (leg : LegName) (x : CountedLeg) → IsRoster legs now chan roster
    → leg_in legs leg ≡ Some x → x.chan ≡ chan → x.has_cells ≡ true → StandsOnRoster roster leg x
stands legs chan now roster leg x is there on queued =
    let items = roster.ready_queue.items in
    let one : count_by (has_name leg) items ≡ 1
    = is.names leg ∙ ap (waits_on chan) there ∙ waits_one chan x on queued in
    let some = some_passes (has_name leg) items (omega arith) in
    let k = some.0 in
    let named : (d : ReadyLeg) → leg ≡ ((get_or items k d).circ, (get_or items k d).number)
    = λ d. same_key pair_keys leg _ (some.2 d) in
    let has : (d : ReadyLeg) → HasCount (Some x) roster.tick (get_or items k d).count
    = λ d.
    subst (λ o. HasCount o roster.tick (get_or items k d).count) (ap (leg_in legs) (sym (named d)) ∙ there)
    (is.counts k d some.1) in
    record {
      place = k;
      within = some.1;
      entry = λ d i. record { count = (has d).1 i; circ = (sym (named d) i).0; number = (sym (named d) i).1 };
      counted = (has (ready_at leg x roster.tick)).0;
    }

pub stands_in : (roster : Roster) (leg : LegName) (x : CountedLeg) → StandsOnRoster roster leg x
    → Contains roster.ready_queue.items (ready_at leg x roster.tick)
stands_in roster leg x s = (s.place, s.within, s.entry (ready_at leg x roster.tick))
