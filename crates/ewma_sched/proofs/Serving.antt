-- What holds of the table once a leg was served.
use Rattle.std.proofs.Common.{◌≡◌, ℕ, ◌-◌, ◌≤◌, map, Some, sym, ap, ◌∙◌, subst, arith}
use Rattle.std.specs.List.Sorted.{IsPermutation}
use Rattle.std.specs.Option.{MatchOption}
use Rattle.std.specs.VecDeque.{deque_len, deque_capacity}
use Rattle.ewma_sched.specs.declared.roster.Roster.{Roster}
use Rattle.ewma_sched.specs.declared.roster.ReadyLeg.{ReadyLeg}
use Rattle.ewma_sched.specs.Counts.{halved, charged}
use Rattle.ewma_sched.specs.Tables.{Legs, Rosters, leg_in, IsRoster, IsTable, Changes, SameLegs, Charges, IsFirst}
use Rattle.ewma_sched.specs.Order.{IsInOrder, Serves, halved_ready_leg}
use Rattle.ewma_sched.proofs.Keeping.{RosterChanges, roster_elsewhere, keeps_by, ticks_after}
use Rattle.ewma_sched.proofs.Picks.{Front, front_of_roster, first_of_roster}
use Rattle.ewma_sched.proofs.RosterRoom.{went_on}
use Rattle.ewma_sched.proofs.RosterSteps.{served_roster}

pub record WentOn (roster next : Roster) (tick : ℕ) : Type 0 where
  pub legs : IsPermutation (map (halved_ready_leg (tick - roster.tick)) roster.ready_queue.items) next.ready_queue.items
  pub order : IsInOrder next.ready_queue.items
  pub idle : next.idle ≡ roster.idle
  pub ticked : next.tick ≡ tick
  pub len : deque_len next.ready_queue ≡ deque_len roster.ready_queue
  pub capacity : deque_capacity next.ready_queue ≡ deque_capacity roster.ready_queue

pub gone_on : {legs : Legs} {chan now tick : ℕ} {roster next : Roster} → IsRoster legs now chan roster → now ≤ tick
    → WentOn roster next tick → IsRoster legs tick chan next
gone_on {legs} {chan} {now} {tick} {roster} {next} is le w =
    went_on legs chan roster next now tick is le w.legs w.order w.idle w.ticked w.len w.capacity

pub record ServedOne (next last : Roster) (served_leg : ReadyLeg) : Type 0 where
  pub serves : Serves next.ready_queue.items last.ready_queue.items served_leg
  pub order : IsInOrder last.ready_queue.items
  pub idle : last.idle ≡ next.idle
  pub ticked : last.tick ≡ next.tick
  pub len : deque_len last.ready_queue ≡ deque_len next.ready_queue
  pub capacity : deque_capacity next.ready_queue ≤ deque_capacity last.ready_queue

module _ (legs legs' : Legs) (chan tick : ℕ) (next last : Roster) (served_leg : ReadyLeg) (is : IsRoster legs tick chan next)
    (ticked : next.tick ≡ tick) (one : ServedOne next last served_leg) where
  front : Front legs chan tick one.serves.first
  front = front_of_roster legs chan tick next one.serves.first one.serves.rest is ticked one.serves.was

  pub served_first : IsFirst legs tick chan (served_leg.circ, served_leg.number)
  served_first =
      subst (λ w. IsFirst legs tick chan (w.circ, w.number)) (sym one.serves.charged)
      (first_of_roster legs chan tick next one.serves.first one.serves.rest is ticked one.serves.was front)

  abbrev Counted : Type 0
  Counted =
      MatchOption (leg_in legs (served_leg.circ, served_leg.number)) (SameLegs legs legs')
      (λ x. Changes legs legs' (served_leg.circ, served_leg.number) (Some x)
      (Some (record x { count = record { value = served_leg.count; tick = tick } })))

  there : leg_in legs (served_leg.circ, served_leg.number) ≡ Some front.state
  unfolding front
  there = ap (λ w. leg_in legs (w.circ, w.number)) one.serves.charged ∙ front.there

  counted : Counted
      → Changes legs legs' (served_leg.circ, served_leg.number) (Some front.state)
      (Some (record front.state { count = record { value = served_leg.count; tick = tick } }))
  counted h =
      subst (λ o. MatchOption o (SameLegs legs legs')
      (λ x. Changes legs legs' (served_leg.circ, served_leg.number) (Some x)
      (Some (record x { count = record { value = served_leg.count; tick = tick } })))) there h

  pub served_charges : Counted → Charges legs legs' tick (served_leg.circ, served_leg.number)
  served_charges h =
      let x = front.state in
      let count : served_leg.count ≡ charged (halved x.count.value (tick - x.count.tick))
      = ap (λ w. w.count) one.serves.charged ∙ ap (λ w. charged w.count) front.is in
      record {
        state = x;
        change =
            subst (λ v. Changes legs legs' (served_leg.circ, served_leg.number) (Some x)
            (Some (record x { count = record { value = v; tick = tick } }))) count (counted h);
      }

  pub served_table : (rosters rosters' : Rosters) (now : ℕ) → IsTable legs rosters now → now ≤ tick → Counted
      → RosterChanges rosters rosters' chan (Some last) → IsTable legs' rosters' tick
  served_table rosters rosters' now table le h roster =
      let x = front.state in
      let change = counted h in
      keeps_by chan now tick (Some last) table roster
      (ticks_after now tick change table.ticks le (λ y e.
      let same : record x { count = record { value = served_leg.count; tick = tick } } ≡ y = cc in
      let t : tick ≡ y.count.tick = ap (λ z. z.count.tick) same in omega arith))
      (λ other apart l k. roster_elsewhere change chan other now tick front.waits.chan front.waits.chan apart le l k)
      (served_roster legs legs' chan tick next last served_leg x is ticked one.serves front.waits.chan front.waits.has_cells
      change
      one.order one.idle one.ticked one.len one.capacity)
