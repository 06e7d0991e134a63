-- What a map's calls do to the kept legs.
use Rattle.std.proofs.Common.{◌≡◌, ◌+◌, cond, ◌∷◌, Option, Some, None, IsSome, refl, sym, ap, ◌∙◌, subst, arith}
use Rattle.std.proofs.lemmas.Cmp.{and_equiv, on_equiv, nat_eq_equiv}
use Rattle.std.proofs.lemmas.Map.{lookup-set_value}
use Rattle.std.proofs.lemmas.Map.Entries.{sum_by_values_permutation, sum_by-remove_entry, sum_by-set_value}
use Rattle.std.proofs.lemmas.Map.Steps.{set_value_same}
use Rattle.std.proofs.lemmas.List.Sums.{sum_by-cons}
use Rattle.std.specs.Cmp.{IsEquivalence}
use Rattle.std.specs.List.Sorted.{IsPermutation}
use Rattle.std.specs.Map.{set_value, remove_entry, values_of}
use Rattle.std.specs.Option.{unwrap_or, option_map}
use Rattle.hashed_maps.specs.Pairs.{pair_eq}
use Rattle.ewma_sched.specs.declared.legs.CountedLeg.{CountedLeg}
use Rattle.ewma_sched.specs.Legs.{LegName}
use Rattle.ewma_sched.specs.Tables.{Legs, leg_in, idle_count, idle_on, Changes, SameLegs}

pub names_equiv : IsEquivalence pair_eq
names_equiv = and_equiv (on_equiv (λ (p : LegName). p.0) nat_eq_equiv) (on_equiv (λ (p : LegName). p.1) nat_eq_equiv)

is_there : {A : Type 0} (o : Option A) (x : A) → o ≡ Some x → IsSome o
is_there o x is = subst IsSome (sym is) refl

-- another value was written
pub written : (old new : Legs) (leg : LegName) (x y : CountedLeg) → leg_in old leg ≡ Some x
    → new ≡ set_value (pair_eq leg) old y → Changes old new leg (Some x) (Some y)
written old new leg x y there is =
    record {
      before = there;
      after = λ other.
          ap (λ l. leg_in l other) is
          ∙ lookup-set_value names_equiv (pair_eq leg) (names_equiv.congr leg) other y old (is_there (leg_in old leg) x there);
      idle = λ chan.
          ap (λ l. idle_on chan l + idle_count chan x) is ∙ sum_by-set_value (idle_count chan) (pair_eq leg) old x y there;
    }

pub written_same : (old new : Legs) (leg : LegName) (x : CountedLeg) → leg_in old leg ≡ Some x
    → new ≡ set_value (pair_eq leg) old x → SameLegs old new
written_same old new leg x there is =
    let same : new ≡ old = is ∙ set_value_same (pair_eq leg) old x there in
    record { legs = λ other. ap (λ l. leg_in l other) same; idle = λ chan. ap (idle_on chan) same }

pub removed : (old new : Legs) (leg : LegName) (x : CountedLeg) → leg_in old leg ≡ Some x
    → ((other : LegName) → leg_in new other ≡ cond (pair_eq leg other) None (leg_in old other))
    → IsPermutation (remove_entry (pair_eq leg) old) new → Changes old new leg (Some x) None
removed old new leg x there after moved =
    record {
      before = there;
      after = after;
      idle = λ chan.
          let same : idle_on chan new ≡ idle_on chan (remove_entry (pair_eq leg) old)
          = sum_by_values_permutation (idle_count chan) (remove_entry (pair_eq leg) old) new moved in
          let less = sum_by-remove_entry (idle_count chan) (pair_eq leg) old in
          let found : unwrap_or (option_map (idle_count chan) (leg_in old leg)) 0 ≡ idle_count chan x
          = ap (λ o. unwrap_or (option_map (idle_count chan) o) 0) there in
          omega arith;
    }

pub inserted : (old new : Legs) (leg : LegName) (y : CountedLeg) → leg_in old leg ≡ None
    → ((other : LegName) → leg_in new other ≡ cond (pair_eq leg other) (Some y) (leg_in old other))
    → IsPermutation ((leg, y) ∷ old) new → Changes old new leg None (Some y)
inserted old new leg y absent after moved =
    record {
      before = absent;
      after = after;
      idle = λ chan.
          let same : idle_on chan new ≡ idle_on chan ((leg, y) ∷ old)
          = sum_by_values_permutation (idle_count chan) ((leg, y) ∷ old) new moved in
          let more : idle_on chan ((leg, y) ∷ old) ≡ idle_count chan y + idle_on chan old
          = sum_by-cons (idle_count chan) y (values_of old) in
          omega arith;
    }

pub reordered : (old new : Legs) → ((other : LegName) → leg_in new other ≡ leg_in old other)
    → IsPermutation old new → SameLegs old new
reordered old new same moved =
    record { legs = same; idle = λ chan. sum_by_values_permutation (idle_count chan) old new moved }

pub unchanged : (old new : Legs) → new ≡ old → SameLegs old new
unchanged old new same =
    record { legs = λ other. ap (λ l. leg_in l other) same; idle = λ chan. ap (idle_on chan) same }
