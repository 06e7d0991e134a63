-- The finite map that legs and places stand for, as one port is given or freed.
use Rattle.std.specs.Prelude.{◌≡◌, ◌≢◌, ℕ, ◌+◌, ◌-◌, ◌<◌, nat_eq, Bool, true, false, List, [], map, cond, Option, Some, None, option_map, IsSome, unwrap_or, slice_index_or, refl}
use Rattle.std.proofs.Common.{sym, ap, ◌∙◌, subst}
use Rattle.std.proofs.lemmas.Bool.{false≢true}
use Rattle.std.specs.Cmp.{nat_eq_equiv}
use Rattle.std.specs.FinMap.{empty, get, insert, remove, get-insert, get-remove, same_map}
use Rattle.std.specs.Map.{lookup}
use Rattle.std.specs.Ordering.{eq_by_cmp}
use borrow.Author.Tests.{eqb-true}
use Rattle.slab.specs.Slab.{Slab, Updates}
use Rattle.slab.specs.Slab as slab
use Rattle.hashed_maps.specs.Pairs.{pair_cmp, pair_eq}
use Rattle.hashed_maps.proofs.Keys.{pair_keys, agrees_back, tied_key, same_key, eq-itself}
use Rattle.hashed_maps.proofs.Entries.{get-entries, lookup-mapped}
use Rattle.circuit_table.specs.Ports.{Port, LegName, Ports, ids_of}
use Rattle.circuit_table.specs.Indexing.{leg_at, ports_of, place_of, count_of, IsIndexed}
use Rattle.circuit_table.proofs.Ids.{ids_of-empty, ids_of-insert, ids_of-remove, ids_of-used}

abbrev Index : Type 0
Index = List (Port × ℕ)

abbrev Counts : Type 0
Counts = List (ℕ × ℕ)

pub get-ports_of : (legs : Slab LegName) (places : Index) (q : Port)
    → get (ports_of legs places) q ≡ option_map (leg_at legs) (place_of places q)
get-ports_of legs places q = get-entries pair_keys _ q ∙ lookup-mapped (pair_eq q) (leg_at legs) places

-- Two readings agree on what is there.
alike : {A B : Type 0} (f g : A → B) (o : Option A) → ((x : A) → o ≡ Some x → f x ≡ g x) → option_map f o ≡ option_map g o
alike f g None same = refl
alike f g (Some x) same = ap Some (same x refl)

same_legs : (old new : Slab LegName) (place : ℕ) → slab.get new place ≡ slab.get old place → leg_at new place ≡ leg_at old place
same_legs old new place same = ap (λ o. unwrap_or o (record { 0 = 0 }, 0)) same

-- Places in another order, over the same legs, are the same map.
pub ports_of-reordered : (old new : Slab LegName) (before after : Index) → new.slots ≡ old.slots
    → ((q : Port) → place_of after q ≡ place_of before q) → ports_of new after ≡ ports_of old before
ports_of-reordered old new before after slots places =
    same_map pair_keys.total pair_keys.exact _ _ (λ q.
    get-ports_of new after q
    ∙ ap (option_map (leg_at new)) (places q)
    ∙ alike (leg_at new) (leg_at old) (place_of before q)
    (λ place _. same_legs old new place (ap (λ xs. slice_index_or xs place None) slots))
    ∙ sym (get-ports_of old before q))

-- What a look-up finds.
pub find-none : (legs : Slab LegName) (places : Index) (q : Port) → place_of places q ≡ None → get (ports_of legs places) q ≡ None
find-none legs places q free = get-ports_of legs places q ∙ ap (option_map (leg_at legs)) free

pub find-some : (legs : Slab LegName) (places : Index) (q : Port) (place : ℕ) → place_of places q ≡ Some place
    → IsSome (slab.get legs place) → get (ports_of legs places) q ≡ slab.get legs place
find-some legs places q place used there =
    get-ports_of legs places q ∙ ap (option_map (leg_at legs)) used ∙ read (slab.get legs place) there
  where
    read : (o : Option LegName) → IsSome o → Some (unwrap_or o (record { 0 = 0 }, 0)) ≡ o
    read None there = cc
    read (Some leg) there = refl

-- The same in another order.
pub is_indexed-reordered : (old new : Slab LegName) (before after : Index) (counts new_counts : Counts)
    → IsIndexed old before counts → new.slots ≡ old.slots → ((q : Port) → place_of after q ≡ place_of before q)
    → new_counts ≡ counts → IsIndexed new after new_counts
is_indexed-reordered old new before after counts new_counts was slots places same =
    record {
      has_leg =
          λ q at used. subst (λ xs. IsSome (slice_index_or xs at None)) (sym slots) (was.has_leg q at (sym (places q) ∙ used));
      apart = λ p q at e f. was.apart p q at (sym (places p) ∙ e) (sym (places q) ∙ f);
      counted =
          λ chan. ap (λ c. count_of c chan) same ∙ was.counted chan
          ∙ ap (λ m. ids_of m chan) (sym (ports_of-reordered old new before after slots places));
    }

-- The counts with one more or less.
pub counts_more : (before after : Counts) (chan n : ℕ)
    → ((q : ℕ) → lookup (nat_eq q) after ≡ cond (nat_eq chan q) (Some n) (lookup (nat_eq q) before))
    → n ≡ count_of before chan + 1 → (q : ℕ) → count_of after q ≡ cond (nat_eq chan q) (count_of before q + 1) (count_of before q)
counts_more before after chan n moved more q = ap (λ o. unwrap_or o 0) (moved q) ∙ read (nat_eq chan q) refl
  where
    read : (here : Bool) → nat_eq chan q ≡ here
        → unwrap_or (cond here (Some n) (lookup (nat_eq q) before)) 0 ≡ cond here (count_of before q + 1) (count_of before q)
    read true is = more ∙ ap (λ c. count_of before c + 1) (eqb-true chan q is)
    read false is = refl

pub counted_port : (legs : Slab LegName) (places : Index) (counts : Counts) (port : Port) (place : ℕ)
    → IsIndexed legs places counts → place_of places port ≡ Some place → 0 < count_of counts port.0
counted_port legs places counts port place is used =
    rw (is.counted port.0)
    (ids_of-used (ports_of legs places) port (leg_at legs place)
    (get-ports_of legs places port ∙ ap (option_map (leg_at legs)) used))

module _ (old new : Slab LegName) (before after : Index) (port : Port) (place : ℕ) where
  module _ (leg : LegName) (free : slab.get old place ≡ None) (updates : Updates old new place (Some leg))
      (moved : (q : Port) → place_of after q ≡ cond (pair_eq port q) (Some place) (place_of before q)) where
    module _ (has_leg : (q : Port) (at : ℕ) → place_of before q ≡ Some at → IsSome (slab.get old at)) where
      -- a place that was used is not the one that was free
      other_place : (q : Port) (at : ℕ) → place_of before q ≡ Some at → at ≢ place
      other_place q at used same =
          let gone : IsSome {T = LegName} None = subst IsSome (ap (slab.get old) same ∙ free) (has_leg q at used) in cc

      read_after : (q : Port) (here : Bool)
          → option_map (leg_at new) (cond here (Some place) (place_of before q))
          ≡ cond here (Some leg) (get (ports_of old before) q)
      read_after q true = ap (λ o. Some (unwrap_or o (record { 0 = 0 }, 0))) updates.changed
      read_after q false =
          alike (leg_at new) (leg_at old) (place_of before q)
          (λ at used. same_legs old new at (updates.others at (other_place q at used)))
          ∙ sym (get-ports_of old before q)

      -- the map with this leg at the port
      pub ports_of-inserted : ports_of new after ≡ insert (ports_of old before) port leg
      ports_of-inserted =
          same_map pair_keys.total pair_keys.exact _ _ (λ q.
          get-ports_of new after q
          ∙ ap (option_map (leg_at new)) (moved q)
          ∙ read_after q (pair_eq port q)
          ∙ ap (λ b. cond b (Some leg) (get (ports_of old before) q)) (agrees_back pair_keys port q)
          ∙ sym (get-insert pair_keys.total (ports_of old before) port leg q))

      has_leg_after : (q : Port) (at : ℕ) (here : Bool) → cond here (Some place) (place_of before q) ≡ Some at
          → IsSome (slab.get new at)
      has_leg_after q at true is =
          let same : place ≡ at = cc in
          subst (λ n. IsSome (slab.get new n)) same (subst IsSome (sym updates.changed) refl)
      has_leg_after q at false is = subst IsSome (sym (updates.others at (other_place q at is))) (has_leg q at is)

      module _ (apart : (p q : Port) (at : ℕ) → place_of before p ≡ Some at → place_of before q ≡ Some at → p ≡ q) where
        apart_after : (p q : Port) (at : ℕ) (first second : Bool) → pair_eq port p ≡ first → pair_eq port q ≡ second
            → cond first (Some place) (place_of before p) ≡ Some at
            → cond second (Some place) (place_of before q) ≡ Some at → p ≡ q
        apart_after p q at true true a b e f = sym (same_key pair_keys port p a) ∙ same_key pair_keys port q b
        apart_after p q at true false a b e f = let same : at ≡ place = cc in absurd (other_place q at f same)
        apart_after p q at false true a b e f = let same : at ≡ place = cc in absurd (other_place p at e same)
        apart_after p q at false false a b e f = apart p q at e f

        pub is_indexed-inserted : (counts_before counts_after : Counts) → get (ports_of old before) port ≡ None
            → ((chan : ℕ) → count_of counts_before chan ≡ ids_of (ports_of old before) chan)
            → ((chan : ℕ)
            → count_of counts_after chan ≡ cond (nat_eq port.0 chan) (count_of counts_before chan + 1)
            (count_of counts_before chan))
            → IsIndexed new after counts_after
        is_indexed-inserted counts_before counts_after none counted more =
            record {
              has_leg = λ q at is. has_leg_after q at (pair_eq port q) (sym (moved q) ∙ is);
              apart =
                  λ p q at e f. apart_after p q at (pair_eq port p) (pair_eq port q) refl refl (sym (moved p) ∙ e)
                  (sym (moved q) ∙ f);
              counted = λ chan.
                  more chan
                  ∙ ap (λ n. cond (nat_eq port.0 chan) (n + 1) n) (counted chan)
                  ∙ sym (ap (λ m. ids_of m chan) ports_of-inserted ∙ ids_of-insert (ports_of old before) port leg chan none);
            }

  module _ (used : place_of before port ≡ Some place) (updates : Updates old new place None)
      (moved : (q : Port) → place_of after q ≡ cond (pair_eq port q) None (place_of before q))
      (apart : (p q : Port) (at : ℕ) → place_of before p ≡ Some at → place_of before q ≡ Some at → p ≡ q) where
    -- another port has another place
    place_of_other : (q : Port) (at : ℕ) → pair_eq port q ≡ false → place_of before q ≡ Some at → at ≢ place
    place_of_other q at differs is same =
        let ports : port ≡ q = apart port q place used (is ∙ ap Some same) in
        let itself : pair_eq port q ≡ true = subst (λ p. pair_eq port p ≡ true) ports (eq-itself pair_keys port) in
        false≢true (sym differs ∙ itself)

    read_without : (q : Port) (here : Bool) → pair_eq port q ≡ here
        → option_map (leg_at new) (cond here None (place_of before q)) ≡ cond here None (get (ports_of old before) q)
    read_without q true is = refl
    read_without q false differs =
        alike (leg_at new) (leg_at old) (place_of before q)
        (λ at there. same_legs old new at (updates.others at (place_of_other q at differs there)))
        ∙ sym (get-ports_of old before q)

    -- the map without the port
    pub ports_of-removed : ports_of new after ≡ remove (ports_of old before) port
    ports_of-removed =
        same_map pair_keys.total pair_keys.exact _ _ (λ q.
        get-ports_of new after q
        ∙ ap (option_map (leg_at new)) (moved q)
        ∙ read_without q (pair_eq port q) refl
        ∙ ap (λ b. cond b None (get (ports_of old before) q)) (agrees_back pair_keys port q)
        ∙ sym (get-remove pair_keys.total (ports_of old before) port q))

    left_place : (q : Port) (at : ℕ) (here : Bool) → cond here None (place_of before q) ≡ Some at
        → (here ≡ false) × (place_of before q ≡ Some at)
    left_place q at true is = cc
    left_place q at false is = (refl, is)

    module _ (has_leg : (q : Port) (at : ℕ) → place_of before q ≡ Some at → IsSome (slab.get old at)) where
      has_leg_without : (q : Port) (at : ℕ) → (pair_eq port q ≡ false) × (place_of before q ≡ Some at) → IsSome (slab.get new at)
      has_leg_without q at left = subst IsSome (sym (updates.others at (place_of_other q at left.0 left.1))) (has_leg q at left.1)

      pub found_leg : get (ports_of old before) port ≡ Some (leg_at old place)
      found_leg = get-ports_of old before port ∙ ap (option_map (leg_at old)) used

      pub is_indexed-removed : (counts_before counts_after : Counts)
          → ((chan : ℕ) → count_of counts_before chan ≡ ids_of (ports_of old before) chan)
          → ((chan : ℕ)
          → count_of counts_after chan ≡ cond (nat_eq chan port.0) (count_of counts_before chan - 1)
          (count_of counts_before chan))
          → IsIndexed new after counts_after
      is_indexed-removed counts_before counts_after counted less =
          record {
            has_leg = λ q at is. has_leg_without q at (left_place q at (pair_eq port q) (sym (moved q) ∙ is));
            apart =
                λ p q at e f. apart p q at (left_place p at (pair_eq port p) (sym (moved p) ∙ e)).1
                (left_place q at (pair_eq port q) (sym (moved q) ∙ f)).1;
            counted = λ chan.
                less chan
                ∙ ap (λ n. cond (nat_eq chan port.0) (n - 1) n) (counted chan)
                ∙ ap (λ b. cond b (ids_of (ports_of old before) chan - 1) (ids_of (ports_of old before) chan))
                (nat_eq_equiv.symm chan port.0)
                ∙ sym (ap (λ m. ids_of m chan) ports_of-removed ∙ ids_of-remove (ports_of old before) port (leg_at old place) chan
                found_leg);
          }

-- A port that is free stays free.
pub ports_of-absent : (legs : Slab LegName) (before after : Index) (port : Port) → place_of before port ≡ None
    → ((q : Port) → place_of after q ≡ place_of before q) → ports_of legs after ≡ remove (ports_of legs before) port
ports_of-absent legs before after port free same =
    same_map pair_keys.total pair_keys.exact _ _ (λ q.
    get-ports_of legs after q
    ∙ ap (option_map (leg_at legs)) (same q)
    ∙ sym (get-ports_of legs before q)
    ∙ without q (eq_by_cmp pair_cmp q port) refl
    ∙ sym (get-remove pair_keys.total (ports_of legs before) port q))
  where
    without : (q : Port) (here : Bool) → eq_by_cmp pair_cmp q port ≡ here
        → get (ports_of legs before) q ≡ cond here None (get (ports_of legs before) q)
    without q true is =
        ap (get (ports_of legs before)) (tied_key pair_keys q port is) ∙ get-ports_of legs before port
        ∙ ap (option_map (leg_at legs)) free
    without q false is = refl

-- A table without entries.
pub is_indexed-empty : (legs : Slab LegName) (places : Index) (counts : Counts) → places ≡ [] → counts ≡ []
    → IsIndexed legs places counts
is_indexed-empty legs places counts none uncounted =
    record {
      has_leg = λ q at is. absurd (nowhere q at is);
      apart = λ p q at e f. absurd (nowhere p at e);
      counted =
          λ chan. ap (λ c. count_of c chan) uncounted ∙ sym (ap (λ p. ids_of (ports_of legs p) chan) none ∙ ids_of-empty chan);
    }
  where
    nowhere : (q : Port) (at : ℕ) → place_of places q ≡ Some at → ⊥
    nowhere q at is = let gone : place_of places q ≡ None = ap (λ p. place_of p q) none in cc
