-- What stays of the kept rosters where one leg changes.
use Rattle.std.proofs.Common.{◌≡◌, ◌≢◌, ℕ, ◌+◌, ◌≤◌, false, cond, get_or, Option, Some, None, count_by, eqb, refl, sym, ap, ◌∙◌, subst, inl, inr, arith}
use Rattle.std.proofs.lemmas.Bool.{eq-eqb, ne_eqb, cases_eq, cases_Bool}
use Rattle.hashed_maps.specs.Pairs.{pair_eq}
use Rattle.hashed_maps.proofs.Keys.{pair_keys, same_key, eq-itself}
use Rattle.ewma_sched.specs.declared.roster.Roster.{Roster}
use Rattle.ewma_sched.specs.declared.legs.CountedLeg.{CountedLeg}
use Rattle.ewma_sched.specs.Legs.{LegName}
use Rattle.ewma_sched.specs.Tables.{Legs, Rosters, has_name, leg_in, roster_in, waits_on, idle_of, idle_on, HasCount, KeepsRoster, IsTable, Changes, SameLegs}
use Rattle.ewma_sched.proofs.Names.{none_passes}

-- a leg that is there lies on this channel
abbrev pub LiesOn : ℕ → Option CountedLeg → Type 0
LiesOn chan None = Unit {0}
LiesOn chan (Some x) = x.chan ≡ chan

-- a leg is not on two channels
pub waits_elsewhere : (chan other : ℕ) (o : Option CountedLeg) → LiesOn chan o → other ≢ chan → waits_on other o ≡ 0
waits_elsewhere chan other None lies apart = refl
waits_elsewhere chan other (Some x) lies apart =
    let test : eqb x.chan other ≡ false = ne_eqb x.chan other (λ e. apart (sym e ∙ lies)) in
    grind (arith, test)

pub idle_elsewhere : (chan other : ℕ) (o : Option CountedLeg) → LiesOn chan o → other ≢ chan → idle_of other o ≡ 0
idle_elsewhere chan other None lies apart = refl
idle_elsewhere chan other (Some x) lies apart =
    let test : eqb x.chan other ≡ false = ne_eqb x.chan other (λ e. apart (sym e ∙ lies)) in
    grind (arith, test)

some_apart : {A : Type 0} (x : A) → ◌≡◌ {A = Option A} None (Some x) → ⊥
some_apart x e = cc

module _ {old new : Legs} {leg : LegName} {leg_before leg_after : Option CountedLeg}
    (change : Changes old new leg leg_before leg_after) where
  -- the changed leg, and the others
  pub at_leg : leg_in new leg ≡ leg_after
  at_leg = change.after leg ∙ ap (λ b. cond b leg_after (leg_in old leg)) (eq-itself pair_keys leg)

  pub at_other : (other : LegName) → pair_eq leg other ≡ false → leg_in new other ≡ leg_in old other
  at_other other apart = change.after other ∙ ap (λ b. cond b leg_after (leg_in old other)) apart

  pub by_name : (P : LegName → Type 0) (other : LegName) → P leg → (pair_eq leg other ≡ false → P other) → P other
  by_name P other here there =
      elim (cases_Bool (pair_eq leg other)) [
        | inl same ↦ subst P (same_key pair_keys leg other same) here
        | inr apart ↦ there apart
      ]

  -- a roster of another channel stays
  pub roster_elsewhere : (chan other : ℕ) (now later : ℕ) → LiesOn chan leg_before → LiesOn chan leg_after → other ≢ chan
      → now ≤ later → (roster : Option Roster) → KeepsRoster old now other roster → KeepsRoster new later other roster
  roster_elsewhere chan other now later lay lies apart le None table =
      let idle_was = idle_elsewhere chan other leg_before lay apart in
      let idle_becomes = idle_elsewhere chan other leg_after lies apart in
      let idle_same : idle_on other new + idle_of other leg_before ≡ idle_on other old + idle_of other leg_after =
      change.idle other in
      let idle = table.idle in
      record {
        none = λ name x is. by_name (λ n. leg_in new n ≡ Some x → x.chan ≢ other) name
            (λ there e.
            let on : LiesOn chan (Some x) = subst (LiesOn chan) (sym at_leg ∙ there) lies in apart (sym e ∙ on))
            (λ off there. table.none name x (sym (at_other name off) ∙ there)) is;
        idle = omega arith;
      }
  roster_elsewhere chan other now later lay lies apart le (Some roster) table =
      let gone : count_by (has_name leg) roster.ready_queue.items ≡ 0
      = table.names leg ∙ ap (waits_on other) change.before ∙ waits_elsewhere chan other leg_before lay apart in
      let idle_was = idle_elsewhere chan other leg_before lay apart in
      let idle_becomes = idle_elsewhere chan other leg_after lies apart in
      let idle_same : idle_on other new + idle_of other leg_before ≡ idle_on other old + idle_of other leg_after =
      change.idle other in
      record {
        tick = omega (arith, table.tick);
        order = table.order;
        names = λ name.
            by_name (λ n. count_by (has_name n) roster.ready_queue.items ≡ waits_on other (leg_in new n)) name
            (gone ∙ sym (ap (waits_on other) at_leg ∙ waits_elsewhere chan other leg_after lies apart))
            (λ off. table.names name ∙ ap (waits_on other) (sym (at_other name off)));
        counts = λ k d within.
            let w = get_or roster.ready_queue.items k d in
            subst (λ o. HasCount o roster.tick w.count)
            (sym (at_other (w.circ, w.number) (none_passes (has_name leg) roster.ready_queue.items gone k d within)))
            (table.counts k d within);
        idle = let i = table.idle in omega arith;
        room = table.room;
      }

-- no leg changes
module _ {old new : Legs} (same : SameLegs old new) where
  pub roster_same : (chan now later : ℕ) → now ≤ later → (roster : Option Roster) → KeepsRoster old now chan roster
      → KeepsRoster new later chan roster
  roster_same chan now later le None table =
      record { none = λ name x is. table.none name x (sym (same.legs name) ∙ is); idle = same.idle chan ∙ table.idle }
  roster_same chan now later le (Some roster) table =
      record {
        tick = omega (arith, table.tick);
        order = table.order;
        names = λ name. table.names name ∙ ap (waits_on chan) (sym (same.legs name));
        counts = λ k d within.
            let w = get_or roster.ready_queue.items k d in
            subst (λ o. HasCount o roster.tick w.count) (sym (same.legs (w.circ, w.number))) (table.counts k d within);
        idle = table.idle ∙ sym (same.idle chan);
        room = table.room;
      }

-- one roster is another thing, or there or gone
abbrev pub RosterChanges : Rosters → Rosters → ℕ → Option Roster → Type 0
RosterChanges old new chan roster_after =
    (other : ℕ) → roster_in new other ≡ cond (eqb chan other) roster_after (roster_in old other)

pub keeps_by : {legs legs' : Legs} {rosters rosters' : Rosters} (chan now later : ℕ) (roster_after : Option Roster)
    → IsTable legs rosters now → RosterChanges rosters rosters' chan roster_after
    → ((leg : LegName) (x : CountedLeg) → leg_in legs' leg ≡ Some x → x.count.tick ≤ later)
    → ((other : ℕ) → other ≢ chan → (roster : Option Roster) → KeepsRoster legs now other roster
    → KeepsRoster legs' later other roster)
    → KeepsRoster legs' later chan roster_after
    → IsTable legs' rosters' later
keeps_by {legs' = legs'} {rosters = rosters} chan now later roster_after table roster ticks elsewhere here =
    record {
      ticks = ticks;
      keeps = λ other.
          elim (cases_eq chan other) [
            | inl e ↦
                subst (KeepsRoster legs' later other)
                (sym (roster other ∙ ap (λ b. cond b roster_after (roster_in rosters other)) (eq-eqb chan other e)))
                (subst (λ n. KeepsRoster legs' later n roster_after) e here)
            | inr apart ↦
                subst (KeepsRoster legs' later other)
                (sym (roster other ∙ ap (λ b. cond b roster_after (roster_in rosters other)) (ne_eqb chan other apart)))
                (elsewhere other (λ e. apart (sym e)) (roster_in rosters other) (table.keeps other))
          ];
    }

-- the ticks of the legs after a change
pub ticks_after : {old new : Legs} {leg : LegName} {leg_before leg_after : Option CountedLeg} (now later : ℕ)
    → Changes old new leg leg_before leg_after
    → ((other : LegName) (x : CountedLeg) → leg_in old other ≡ Some x → x.count.tick ≤ now)
    → now ≤ later → ((x : CountedLeg) → leg_after ≡ Some x → x.count.tick ≤ later)
    → (other : LegName) (x : CountedLeg) → leg_in new other ≡ Some x → x.count.tick ≤ later
ticks_after {new = new} now later change ticks le here other x is =
    by_name change (λ n. leg_in new n ≡ Some x → x.count.tick ≤ later) other
    (λ there. here x (sym (at_leg change) ∙ there))
    (λ off there. let t = ticks other x (sym (at_other change other off) ∙ there) in omega arith) is
