-- What a call on the list at one key does to all of them.
use Rattle.std.specs.Prelude.{◌≡◌, ◌<◌, ◌≤◌, ◌+◌, ℕ, Bool, [], ◌∷◌, ◌++◌, Option, Some, None, IsOk, IfSome, IfNone, Result, Ok, Err, refl}
use Rattle.std.proofs.Common.{◌∙◌, sym, ap, subst, arith}
use Rattle.std.specs.HashMap.{HashMap, WritesThrough, Updates}
use Rattle.std.specs.FinMap.{FinMap, from_entries}
use Rattle.std.specs.Map.{lookup}
use Rattle.std.specs.Result.{OnErr, OnOk}
use Rattle.std.specs.declared.cmp.Ordering.{Ordering}
use Rattle.cell_codec.specs.Roomy.{Roomy, capacity}
use Rattle.hashed_maps.proofs.Keys.{OrdersKeys}
use Rattle.out_lanes.specs.Lines.{line_at, nothing, Reserves, AddsLast, TakesFirst, Empties}
use Rattle.out_lanes.proofs.Changes.{Rewrites, written, rewritten, added, removed, line_found, line_absent, OnErr-by, first_taken, same_capacity}

module _ {K X : Type 0} {R : K → K → Ordering} where
  -- Where the list has no room, and some is asked for.
  pub reserves-refused : {T E : Type 0} {old new : FinMap R (Roomy X)} {key : K} {more : ℕ} (r : Result T E) {e : E}
      → r ≡ Err e → new ≡ old → line_at old key ≡ nothing → 0 < more → Reserves old new key more r
  reserves-refused {T} {E} {old} {new} {key} {more} r {e} failed same none some =
      subst (Reserves old new key more) (sym failed) (record {
        items = ap (λ m. (line_at m key).items) same;
        ok = tt;
        kept = rw same (omega arith);
        others = λ q differs. ap (λ m. line_at m q) same;
        err = same;
        room = λ fits. let too_much : more ≤ 0 = subst (λ line. more ≤ line.spare) none fits in absurd (omega arith);
      })

  pub reserves-nothing : {T E : Type 0} {old new : FinMap R (Roomy X)} {key : K} {more : ℕ} (x : T) → new ≡ old → more ≡ 0
      → Reserves {E = E} old new key more (Ok x)
  reserves-nothing {T} {E} {old} {new} {key} {more} x same none =
      record {
        items = ap (λ m. (line_at m key).items) same;
        ok = rw none (omega arith);
        kept = rw same (omega arith);
        others = λ q differs. ap (λ m. line_at m q) same;
        err = tt;
        room = λ fits. refl;
      }

  pub takes_first-none : {old new : FinMap R (Roomy X)} {key : K} → new ≡ old → line_at old key ≡ nothing
      → TakesFirst old new key None
  takes_first-none {old} {new} {key} same none =
      record {
        item = rw none refl;
        items = rw same (rw none refl);
        capacity = ap (λ m. capacity (line_at m key)) same;
        others = λ q differs. ap (λ m. line_at m q) same;
      }

module _ {K X S : Type 0} {R : K → K → Ordering} {eq : K → K → Bool} (keys : OrdersKeys R eq) (m : HashMap K (Roomy X) S)
    (key : K) {old : FinMap R (Roomy X)} (seen : from_entries {R = R} m.entries ≡ old) where
  -- A key without a list.
  pub none_at : None ≡ lookup (eq key) m.entries → line_at old key ≡ nothing
  none_at absent = ap (λ o. line_at o key) (sym seen) ∙ line_absent keys m.entries key (sym absent)

  -- A list that is there.
  pub one_at : (old_line : Roomy X) → Some old_line ≡ lookup (eq key) m.entries → line_at old key ≡ old_line
  one_at old_line found = ap (λ o. line_at o key) (sym seen) ∙ line_found keys m.entries key old_line (sym found)

module _ {K X S : Type 0} {R : K → K → Ordering} {eq : K → K → Bool} (keys : OrdersKeys R eq) (m n : HashMap K (Roomy X) S)
    (key : K) {old : FinMap R (Roomy X)} (seen : from_entries {R = R} m.entries ≡ old) where
  pub empties : Updates eq m n key None → Empties old (from_entries {R = R} n.entries) key
  empties updates =
      let w = removed keys m n key updates in
      subst (λ o. Empties o (from_entries {R = R} n.entries) key) seen (record { nothing = w.is_line; others = w.others })

  module _ (old_line new_line : Roomy X) (writes : WritesThrough eq (eq key) m new_line n)
      (found : Some old_line ≡ lookup (eq key) m.entries) where
    w : Rewrites (from_entries {R = R} m.entries) (from_entries {R = R} n.entries) key old_line new_line
    w = written keys m n key old_line new_line writes found

    pub reserves : {T E : Type 0} (more : ℕ) (r : Result T E) → new_line.items ≡ old_line.items → OnOk r (more ≤ new_line.spare)
        → old_line.spare ≤ new_line.spare → OnErr r (new_line ≡ old_line) → (more ≤ old_line.spare → IsOk r)
        → Reserves old (from_entries {R = R} n.entries) key more r
    reserves more r items ok kept err room =
        subst (λ o. Reserves o (from_entries {R = R} n.entries) key more r) seen
        (record {
          items = rw (w.is_line, w.was_line) items;
          ok = rw w.is_line ok;
          kept = rw (w.is_line, w.was_line) kept;
          others = w.others;
          err = OnErr-by r (rewritten keys m n key old_line new_line writes found) err;
          room = rw w.was_line room;
        })

    pub adds_last : (item : X) → new_line.items ≡ old_line.items ++ item ∷ [] → new_line.spare + 1 ≡ old_line.spare
        → AddsLast old (from_entries {R = R} n.entries) key item
    adds_last item items spare =
        subst (λ o. AddsLast o (from_entries {R = R} n.entries) key item) seen
        (record { items = rw (w.is_line, w.was_line) items; spare = rw (w.is_line, w.was_line) spare; others = w.others })

    pub takes_first : (first : Option X) → IfSome first (λ x. old_line.items ≡ x ∷ new_line.items)
        → IfSome first (λ x. new_line.spare ≡ old_line.spare + 1) → IfNone first ((old_line.items ≡ []) × (new_line ≡ old_line))
        → TakesFirst old (from_entries {R = R} n.entries) key first
    takes_first first some more none =
        let taken = first_taken first old_line new_line some none in
        subst (λ o. TakesFirst o (from_entries {R = R} n.entries) key first) seen
        (record {
          item = rw w.was_line taken.0;
          items = rw (w.is_line, w.was_line) taken.1;
          capacity = rw (w.is_line, w.was_line) (same_capacity first old_line new_line some more none);
          others = w.others;
        })

-- A list is new at a key that had none.
module _ {K X S : Type 0} {R : K → K → Ordering} {eq : K → K → Bool} (keys : OrdersKeys R eq) (start m n : HashMap K (Roomy X) S)
    (key : K) {old : FinMap R (Roomy X)} (seen : from_entries {R = R} start.entries ≡ old) (new_line : Roomy X) (same : m ≡ start)
    (updates : Updates eq m n key (Some new_line)) (absent : None ≡ lookup (eq key) start.entries) where
  pub reserves-added : {T E : Type 0} (more : ℕ) (x : T) → new_line.items ≡ [] → more ≤ new_line.spare
      → Reserves {E = E} old (from_entries {R = R} n.entries) key more (Ok x)
  reserves-added {T} {E} more x items ok =
      let w = added keys m n key start new_line same updates absent in
      subst (λ o. Reserves {E = E} o (from_entries {R = R} n.entries) key more (Ok x)) seen
      (record {
        items = rw (w.is_line, w.was_line) items;
        ok = rw w.is_line ok;
        kept = rw (w.is_line, w.was_line) (omega arith);
        others = w.others;
        err = tt;
        room = λ fits. refl;
      })
