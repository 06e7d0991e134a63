-- What holds of the table once a leg has something queued, or has not.
use Rattle.std.proofs.Common.{◌≡◌, ℕ, ◌+◌, ◌≤◌, Bool, true, false, cond, ◌∷◌, Option, Some, None, refl, sym, ap, ◌∙◌, inl, inr, arith}
use Rattle.std.proofs.lemmas.Bool.{cases_Bool}
use Rattle.std.specs.List.Sorted.{IsPermutation}
use Rattle.std.specs.Option.{MatchOption, option_map}
use Rattle.std.specs.VecDeque.{deque_len, deque_capacity}
use Rattle.hashed_maps.specs.Pairs.{pair_eq}
use Rattle.hashed_maps.proofs.Keys.{pair_keys, same_key}
use Rattle.ewma_sched.specs.declared.roster.Roster.{Roster}
use Rattle.ewma_sched.specs.declared.legs.CountedLeg.{CountedLeg}
use Rattle.ewma_sched.specs.Legs.{LegName}
use Rattle.ewma_sched.specs.Tables.{Legs, Rosters, leg_in, roster_in, queued_as, Becomes, IsRoster, IsTable, Changes, SameLegs}
use Rattle.ewma_sched.specs.Order.{IsInOrder}
use Rattle.ewma_sched.proofs.Keeping.{RosterChanges, roster_elsewhere, keeps_by, ticks_after}
use Rattle.ewma_sched.proofs.Standing.{ready_at}
use Rattle.ewma_sched.proofs.RosterSteps.{began_roster, ended_roster}
use Rattle.ewma_sched.proofs.TableRosters.{roster_table}
use Rattle.ewma_sched.proofs.Serving.{WentOn, gone_on}

-- one leg has something queued from now on, or has not

module _ (legs legs' : Legs) (rosters rosters' : Rosters) (now : ℕ) (name : LegName) (x : CountedLeg) (roster last : Roster)
    (table : IsTable legs rosters now) (there : roster_in rosters x.chan ≡ Some roster)
    (written : RosterChanges rosters rosters' x.chan (Some last)) where
  queued_table : (some : Bool) → Changes legs legs' name (Some x) (Some (record x { has_cells = some }))
      → IsRoster legs' now x.chan last → IsTable legs' rosters' now
  queued_table some change is =
      let from = table.ticks name x change.before in
      keeps_by x.chan now now (Some last) table written
      (ticks_after now now change table.ticks (omega arith) (λ y e.
      let same : record x { has_cells = some } ≡ y = cc in
      let t : x.count.tick ≡ y.count.tick = ap (λ z. z.count.tick) same in omega arith))
      (λ other apart l k. roster_elsewhere change x.chan other now now refl refl apart (omega arith) l k)
      is

  pub began_table : (next : Roster) → x.has_cells ≡ false
      → Changes legs legs' name (Some x) (Some (record x { has_cells = true }))
      → WentOn roster next now
      → IsPermutation (ready_at name x now ∷ next.ready_queue.items) last.ready_queue.items
      → IsInOrder last.ready_queue.items → last.idle + 1 ≡ next.idle → last.tick ≡ next.tick
      → deque_len last.ready_queue + last.idle ≤ deque_capacity last.ready_queue
      → IsTable legs' rosters' now
  began_table next rested change went moved ordered idle ticked room =
      queued_table true change
      (began_roster legs legs' x.chan now next last name x
      (gone_on (roster_table x.chan roster table there) (omega arith) went) went.ticked
      (table.ticks name x change.before) refl rested change moved ordered idle ticked room)

  pub ended_table : x.has_cells ≡ true
      → Changes legs legs' name (Some x) (Some (record x { has_cells = false }))
      → IsPermutation roster.ready_queue.items (ready_at name x roster.tick ∷ last.ready_queue.items)
      → IsInOrder last.ready_queue.items → last.idle ≡ roster.idle + 1 → last.tick ≡ roster.tick
      → deque_len last.ready_queue + last.idle ≤ deque_capacity last.ready_queue
      → IsTable legs' rosters' now
  ended_table waited change moved ordered idle ticked room =
      queued_table false change
      (ended_roster legs legs' x.chan now roster last name x (roster_table x.chan roster table there) refl waited change
      moved ordered idle ticked room)

-- a change by its names alone

pub becomes_queued : (old new : Legs) (name : LegName) (x : CountedLeg) (some : Bool)
    → Changes old new name (Some x) (Some (record x { has_cells = some }))
    → Becomes old new name (option_map (queued_as some) (leg_in old name))
becomes_queued old new name x some change other =
    change.after other
    ∙ ap (λ o. cond {A = Option CountedLeg} (pair_eq name other) (option_map (queued_as some) o) (leg_in old other))
    (sym change.before)

mapped_same : (some : Bool) (o : Option CountedLeg) → MatchOption o (true ≡ true) (λ x. x.has_cells ≡ some)
    → option_map (queued_as some) o ≡ o
mapped_same some None known = refl
mapped_same some (Some x) known = λ i. Some (record x { has_cells = sym known i })

pub becomes_same : (old new : Legs) (name : LegName) (some : Bool) → SameLegs old new
    → MatchOption (leg_in old name) (true ≡ true) (λ x. x.has_cells ≡ some)
    → Becomes old new name (option_map (queued_as some) (leg_in old name))
becomes_same old new name some same known other =
    let still : option_map (queued_as some) (leg_in old name) ≡ leg_in old name = mapped_same some (leg_in old name) known in
    elim (cases_Bool (pair_eq name other)) [
      | inl named ↦
          same.legs other
          ∙ ap (leg_in old) (sym (same_key pair_keys name other named))
          ∙ sym still
          ∙ sym (ap (λ b. cond {A = Option CountedLeg} b (option_map (queued_as some) (leg_in old name)) (leg_in old other))
          named)
      | inr apart ↦
          same.legs other
          ∙ sym (ap (λ b. cond {A = Option CountedLeg} b (option_map (queued_as some) (leg_in old name)) (leg_in old other))
          apart)
    ]
