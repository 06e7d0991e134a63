-- What a leg counts for on its channel, where it has something queued and where not.
use Rattle.std.proofs.Common.{not, ◌≡◌, ◌≢◌, ℕ, ◌≤◌, true, false, cond, List, get_or, Option, Some, None, count_by, eqb, refl, sym, ap, ◌∙◌, subst, arith}
use Rattle.std.proofs.lemmas.Bool.{eq-eqb, ne_eqb, and_from, and_left, and_right}
use Rattle.std.proofs.lemmas.Map.Entries.{sum_by-remove_entry}
use Rattle.std.specs.List.{All}
use Rattle.std.specs.Option.{unwrap_or, option_map}
use Rattle.hashed_maps.specs.Pairs.{pair_eq}
use Rattle.ewma_sched.specs.declared.roster.ReadyLeg.{ReadyLeg}
use Rattle.ewma_sched.specs.declared.legs.CountedLeg.{CountedLeg}
use Rattle.ewma_sched.specs.Legs.{LegName}
use Rattle.ewma_sched.specs.Tables.{Legs, has_name, leg_in, waits_on, idle_count, idle_on, HasCount, Changes}
use Rattle.ewma_sched.proofs.Keeping.{at_leg, at_other, by_name}
use Rattle.ewma_sched.proofs.Maps.{names_equiv}
use Rattle.ewma_sched.proofs.Names.{none_passes}

-- what a leg weighs

pub waits_one : (chan : ℕ) (x : CountedLeg) → x.chan ≡ chan → x.has_cells ≡ true → waits_on chan (Some x) ≡ 1
waits_one chan x on queued =
    ap (λ b. cond {A = ℕ} b 1 0) (and_from (eqb x.chan chan) x.has_cells (eq-eqb x.chan chan on) queued)

pub waits_none : (chan : ℕ) (x : CountedLeg) → x.has_cells ≡ false → waits_on chan (Some x) ≡ 0
waits_none chan x queued = ap (λ b. cond {A = ℕ} b 1 0) (and_right (eqb x.chan chan) x.has_cells queued)

pub idle_one : (chan : ℕ) (x : CountedLeg) → x.chan ≡ chan → x.has_cells ≡ false → idle_count chan x ≡ 1
idle_one chan x on queued =
    ap (λ b. cond {A = ℕ} b 1 0) (and_from (eqb x.chan chan) (not x.has_cells) (eq-eqb x.chan chan on) (ap not queued))

pub idle_none : (chan : ℕ) (x : CountedLeg) → x.has_cells ≡ true → idle_count chan x ≡ 0
idle_none chan x queued =
    ap (λ b. cond {A = ℕ} b 1 0) (and_right (eqb x.chan chan) (not x.has_cells) (ap not queued))

pub apart_back : (p q : LegName) → pair_eq p q ≡ false → pair_eq q p ≡ false
apart_back p q apart = sym (names_equiv.symm p q) ∙ apart

module _ {old new : Legs} {leg : LegName} {leg_before leg_after : Option CountedLeg}
    (change : Changes old new leg leg_before leg_after) where
  -- legs of other names have their counts
  pub others_stay : (tick : ℕ) (waiting_legs : List ReadyLeg) → count_by (has_name leg) waiting_legs ≡ 0
      → All (λ w. HasCount (leg_in old (w.circ, w.number)) tick w.count) waiting_legs
      → All (λ w. HasCount (leg_in new (w.circ, w.number)) tick w.count) waiting_legs
  others_stay tick waiting_legs none counts k d within =
      let w = get_or waiting_legs k d in
      subst (λ o. HasCount o tick w.count)
      (sym (at_other change (w.circ, w.number) (none_passes (has_name leg) waiting_legs none k d within)))
      (counts k d within)

  -- a name's weight, where the changed leg weighs the same
  pub same_weight : (chan : ℕ) → waits_on chan leg_after ≡ waits_on chan leg_before → (name : LegName)
      → waits_on chan (leg_in new name) ≡ waits_on chan (leg_in old name)
  same_weight chan same name =
      by_name change (λ n. waits_on chan (leg_in new n) ≡ waits_on chan (leg_in old n)) name
      (ap (waits_on chan) (at_leg change) ∙ same ∙ ap (waits_on chan) (sym change.before))
      (λ off. ap (waits_on chan) (at_other change name off))

pub weighs_nothing : (chan : ℕ) (o : Option CountedLeg) → ((x : CountedLeg) → o ≡ Some x → x.chan ≢ chan) → waits_on chan o ≡ 0
weighs_nothing chan None off = refl
weighs_nothing chan (Some x) off =
    ap (λ b. cond {A = ℕ} b 1 0) (and_left (eqb x.chan chan) x.has_cells (ne_eqb x.chan chan (off x refl)))

pub idle_least : (legs : Legs) (leg : LegName) (x : CountedLeg) (chan : ℕ) → leg_in legs leg ≡ Some x
    → idle_count chan x ≤ idle_on chan legs
idle_least legs leg x chan there =
    let parts = sum_by-remove_entry (idle_count chan) (pair_eq leg) legs in
    let found : unwrap_or (option_map (idle_count chan) (leg_in legs leg)) 0 ≡ idle_count chan x
    = ap (λ o. unwrap_or (option_map (idle_count chan) o) 0) there in
    omega arith
