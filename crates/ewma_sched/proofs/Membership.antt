-- What holds of the table once a leg has joined or left.
use Rattle.std.proofs.Common.{◌≡◌, ℕ, ◌+◌, ◌≤◌, Bool, false, cond, ◌∷◌, Option, Some, None, Result, Ok, Err, IsOk, OnOk, IfOk, refl, sym, ap, ◌∙◌, subst, inl, inr, arith}
use Rattle.std.proofs.lemmas.Bool.{cases_Bool}
use Rattle.std.specs.List.Sorted.{IsPermutation}
use Rattle.std.specs.Map.{set_value}
use Rattle.std.specs.Option.{MatchOption, option_map}
use Rattle.hashed_maps.specs.Pairs.{pair_eq}
use Rattle.hashed_maps.proofs.Keys.{pair_keys, same_key, eq-itself}
use Rattle.ewma_sched.specs.declared.roster.Roster.{Roster}
use Rattle.ewma_sched.specs.declared.legs.CountedLeg.{CountedLeg}
use Rattle.ewma_sched.specs.Legs.{LegName}
use Rattle.ewma_sched.specs.Tables.{Legs, Rosters, leg_in, roster_in, queued_as, Becomes, RosterHasRoom, IsTable, Changes, SameLegs}
use Rattle.ewma_sched.proofs.Keeping.{RosterChanges, roster_elsewhere, keeps_by, ticks_after}
use Rattle.ewma_sched.proofs.Weights.{idle_one, idle_least}
use Rattle.ewma_sched.proofs.RosterMembers.{left_roster, joined_roster}
use Rattle.ewma_sched.proofs.TableRosters.{roster_table}

-- a leg that is new

pub put_moves : {E : Type 0} (old new : Legs) (name : LegName) (y : CountedLeg) (r : Result (Option CountedLeg) E) → IsOk r
    → IfOk r (λ o. o ≡ leg_in old name) → leg_in old name ≡ None
    → IfOk r (λ o. MatchOption o (IsPermutation ((name, y) ∷ old) new) (λ _. new ≡ set_value (pair_eq name) old y))
    → IsPermutation ((name, y) ∷ old) new
put_moves old new name y (Ok o) fine was absent moved =
    subst (λ p. MatchOption p (IsPermutation ((name, y) ∷ old) new) (λ _. new ≡ set_value (pair_eq name) old y)) (was ∙ absent)
    moved
put_moves old new name y (Err e) fine was absent moved = absurd (let never : ⊥ = cc in never)

pub on_ok : {T E : Type 0} {P : Type 0} (r : Result T E) → IsOk r → OnOk r P → P
on_ok (Ok x) fine given = given
on_ok (Err e) fine given = absurd (let never : ⊥ = cc in never)

pub joined_table : (legs legs' : Legs) (rosters rosters' : Rosters) (now tick chan : ℕ) (name : LegName) (x : CountedLeg)
    (roster : Roster)
    → IsTable legs rosters now → now ≤ tick → roster_in rosters chan ≡ Some roster
    → RosterChanges rosters rosters' chan (Some (record roster { idle = roster.idle + 1 }))
    → x.chan ≡ chan → x.has_cells ≡ false → x.count.tick ≡ tick
    → Changes legs legs' name None (Some x) → RosterHasRoom (roster_in rosters chan) → IsTable legs' rosters' tick
joined_table legs legs' rosters rosters' now tick chan name x roster table le there written on rests counted change room =
    keeps_by chan now tick (Some (record roster { idle = roster.idle + 1 })) table written
    (ticks_after now tick change table.ticks le (λ y e.
    let same : x ≡ y = cc in
    let t : x.count.tick ≡ y.count.tick = ap (λ z. z.count.tick) same in omega arith))
    (λ other apart l k. roster_elsewhere change chan other now tick tt on apart le l k)
    (joined_roster legs legs' chan now tick roster name x (roster_table chan roster table there) le on rests change
    (subst RosterHasRoom there room))

-- a leg that is gone

queued_is : (o : Option CountedLeg) (some : Bool) (x : CountedLeg) → option_map (queued_as some) o ≡ Some x → x.has_cells ≡ some
queued_is None some x is = absurd (let never : ⊥ = cc in never)
queued_is (Some y) some x is =
    let same : record y { has_cells = some } ≡ x = cc in sym (ap (λ z. z.has_cells) same)

pub rested_by : (old new : Legs) (name : LegName) (some : Bool) (x : CountedLeg)
    → Becomes old new name (option_map (queued_as some) (leg_in old name)) → leg_in new name ≡ Some x → x.has_cells ≡ some
rested_by old new name some x becomes there =
    queued_is (leg_in old name) some x
    (sym (becomes name
    ∙ ap (λ b. cond {A = Option CountedLeg} b (option_map (queued_as some) (leg_in old name)) (leg_in old name))
    (eq-itself pair_keys name))
    ∙ there)

pub becomes_gone : (old mid new : Legs) (name : LegName) (o : Option CountedLeg) → Becomes old mid name o
    → Becomes mid new name None → Becomes old new name None
becomes_gone old mid new name o first second other =
    elim (cases_Bool (pair_eq name other)) [
      | inl named ↦
          second other ∙ ap (λ b. cond {A = Option CountedLeg} b None (leg_in mid other)) named
          ∙ sym (ap (λ b. cond {A = Option CountedLeg} b None (leg_in old other)) named)
      | inr apart ↦
          second other ∙ ap (λ b. cond {A = Option CountedLeg} b None (leg_in mid other)) apart
          ∙ first other ∙ ap (λ b. cond {A = Option CountedLeg} b o (leg_in old other)) apart
          ∙ sym (ap (λ b. cond {A = Option CountedLeg} b None (leg_in old other)) apart)
    ]

pub becomes_absent : (old mid new : Legs) (name : LegName) (o : Option CountedLeg) → Becomes old mid name o
    → leg_in mid name ≡ None → SameLegs mid new → Becomes old new name None
becomes_absent old mid new name o first absent same other =
    elim (cases_Bool (pair_eq name other)) [
      | inl named ↦
          same.legs other ∙ ap (leg_in mid) (sym (same_key pair_keys name other named)) ∙ absent
          ∙ sym (ap (λ b. cond {A = Option CountedLeg} b None (leg_in old other)) named)
      | inr apart ↦
          same.legs other ∙ first other ∙ ap (λ b. cond {A = Option CountedLeg} b o (leg_in old other)) apart
          ∙ sym (ap (λ b. cond {A = Option CountedLeg} b None (leg_in old other)) apart)
    ]

pub left_table : (legs legs' : Legs) (rosters rosters' : Rosters) (now : ℕ) (name : LegName) (x : CountedLeg) (roster : Roster)
    (idle : ℕ)
    → IsTable legs rosters now → roster_in rosters x.chan ≡ Some roster
    → RosterChanges rosters rosters' x.chan (Some (record roster { idle = idle }))
    → x.has_cells ≡ false → Changes legs legs' name (Some x) None → idle + 1 ≡ roster.idle → IsTable legs' rosters' now
left_table legs legs' rosters rosters' now name x roster idle table there written rests change fewer =
    keeps_by x.chan now now (Some (record roster { idle = idle })) table written
    (ticks_after now now change table.ticks (omega arith) (λ y e. absurd (let never : ⊥ = cc in never)))
    (λ other apart l k. roster_elsewhere change x.chan other now now refl tt apart (omega arith) l k)
    (left_roster legs legs' x.chan now roster name x idle (roster_table x.chan roster table there) refl rests change fewer)

pub one_idle : (legs : Legs) (rosters : Rosters) (now : ℕ) (name : LegName) (x : CountedLeg) (roster : Roster)
    → IsTable legs rosters now
    → roster_in rosters x.chan ≡ Some roster → leg_in legs name ≡ Some x → x.has_cells ≡ false → 1 ≤ roster.idle
one_idle legs rosters now name x roster table there leg rests =
    let is = roster_table x.chan roster table there in
    let idle = is.idle in
    let one = idle_one x.chan x refl rests in
    let least = idle_least legs name x x.chan leg in
    omega arith
