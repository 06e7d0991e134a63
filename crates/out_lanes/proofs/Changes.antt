-- How a map of lists changes, by the look-ups of its entries.
use Rattle.std.specs.Prelude.{◌≡◌, ◌≢◌, Bool, true, false, cond, List, [], ◌∷◌, Option, Some, None, IsSome, IfSome, IfNone, unwrap_or, slice_get, drop, ◌+◌, refl, Result, Ok, Err}
use Rattle.std.proofs.Common.{◌∙◌, sym, ap, subst, arith}
use Rattle.std.specs.HashMap.{HashMap, WritesThrough, Updates}
use Rattle.std.proofs.lemmas.Map.Steps.{set_value_same}
use Rattle.std.specs.FinMap.{FinMap, from_entries}
use Rattle.std.specs.Map.{lookup, set_value}
use Rattle.std.specs.Result.{OnErr, OnOk}
use Rattle.std.specs.declared.cmp.Ordering.{Ordering}
use Rattle.cell_codec.specs.Roomy.{Roomy, capacity}
use Rattle.hashed_maps.proofs.Keys.{OrdersKeys, same_key, eq-itself}
use Rattle.hashed_maps.proofs.Entries.{get-entries}
use Rattle.out_lanes.specs.Lines.{line_at, nothing, OthersStay}

-- A map in which the list at one key changes.
pub record Rewrites {K X : Type 0} {R : K → K → Ordering} (old new : FinMap R (Roomy X)) (key : K)
    (old_line new_line : Roomy X) : Type 0 where
  pub was_line : line_at old key ≡ old_line
  pub is_line : line_at new key ≡ new_line
  pub others : OthersStay old new key

module _ {K X : Type 0} {R : K → K → Ordering} {eq : K → K → Bool} (keys : OrdersKeys R eq) where
  pub line_at-entries : (lines : List (K × Roomy X)) (key : K)
      → line_at (from_entries {R = R} lines) key ≡ unwrap_or (lookup (eq key) lines) nothing
  line_at-entries lines key = ap (λ o. unwrap_or o nothing) (get-entries keys lines key)

  pub line_found : (lines : List (K × Roomy X)) (key : K) (line : Roomy X) → lookup (eq key) lines ≡ Some line
      → line_at (from_entries {R = R} lines) key ≡ line
  line_found lines key line is = line_at-entries lines key ∙ ap (λ o. unwrap_or o nothing) is

  pub line_absent : (lines : List (K × Roomy X)) (key : K) → lookup (eq key) lines ≡ None
      → line_at (from_entries {R = R} lines) key ≡ nothing
  line_absent lines key none = line_at-entries lines key ∙ ap (λ o. unwrap_or o nothing) none

  module _ (before after : List (K × Roomy X)) (key : K) (now : Option (Roomy X))
      (moved : (q : K) → lookup (eq q) after ≡ cond (eq key q) now (lookup (eq q) before)) where
    line_after : line_at (from_entries {R = R} after) key ≡ unwrap_or now nothing
    line_after =
        line_at-entries after key
        ∙ ap (λ o. unwrap_or o nothing) (moved key ∙ ap (λ b. cond b now (lookup (eq key) before)) (eq-itself keys key))

    apart : (q : K) (here : Bool) → eq key q ≡ here → q ≢ key → cond here now (lookup (eq q) before) ≡ lookup (eq q) before
    apart q true is differs = absurd (differs (sym (same_key keys key q is)))
    apart q false is differs = refl

    others_after : OthersStay (from_entries {R = R} before) (from_entries {R = R} after) key
    others_after q differs =
        line_at-entries after q
        ∙ ap (λ o. unwrap_or o nothing) (moved q ∙ apart q (eq key q) refl differs)
        ∙ sym (line_at-entries before q)

    pub rewrites : (old_line : Roomy X) → line_at (from_entries {R = R} before) key ≡ old_line
        → Rewrites (from_entries {R = R} before) (from_entries {R = R} after) key old_line (unwrap_or now nothing)
    rewrites old_line is = record { was_line = is; is_line = line_after; others = others_after }

module _ {K X S : Type 0} {R : K → K → Ordering} {eq : K → K → Bool} (keys : OrdersKeys R eq) (m n : HashMap K (Roomy X) S)
    (key : K) where
  -- a list that was found is written
  pub written : (old_line new_line : Roomy X) → WritesThrough eq (eq key) m new_line n → Some old_line ≡ lookup (eq key) m.entries
      → Rewrites (from_entries {R = R} m.entries) (from_entries {R = R} n.entries) key old_line new_line
  written old_line new_line writes found =
      rewrites keys m.entries n.entries key (Some new_line) ((writes.3 (subst IsSome found refl)).0) old_line
      (line_found keys m.entries key old_line (sym found))

  -- where it is written as it was, the map stays
  pub rewritten : (old_line new_line : Roomy X) → WritesThrough eq (eq key) m new_line n
      → Some old_line ≡ lookup (eq key) m.entries → new_line ≡ old_line
      → from_entries {R = R} n.entries ≡ from_entries m.entries
  rewritten old_line new_line writes found same =
      ap (from_entries {R = R})
      (writes.0 ∙ ap (set_value (eq key) m.entries) same ∙ set_value_same (eq key) m.entries old_line (sym found))

  -- a list is new at a key that had none
  pub added : (start : HashMap K (Roomy X) S) (new_line : Roomy X) → m ≡ start → Updates eq m n key (Some new_line)
      → None ≡ lookup (eq key) start.entries
      → Rewrites (from_entries {R = R} start.entries) (from_entries {R = R} n.entries) key nothing new_line
  added start new_line same updates absent =
      let none : None ≡ lookup (eq key) m.entries = subst (λ o. None ≡ lookup (eq key) o.entries) (sym same) absent in
      let w = rewrites keys m.entries n.entries key (Some new_line) updates.0 nothing
      (line_absent keys m.entries key (sym none)) in
      subst (λ o. Rewrites (from_entries {R = R} o.entries) (from_entries {R = R} n.entries) key nothing new_line) same w

  -- a list goes
  pub removed : Updates eq m n key None
      → Rewrites (from_entries {R = R} m.entries) (from_entries {R = R} n.entries) key
      (line_at (from_entries {R = R} m.entries) key) nothing
  removed updates = rewrites keys m.entries n.entries key None updates.0 _ refl

-- What a failure says, said otherwise.
pub OnErr-by : {T E P Q : Type 0} (r : Result T E) → (P → Q) → OnErr r P → OnErr r Q
OnErr-by (Ok x) f p = tt
OnErr-by (Err e) f p = f p

pub OnOk-by : {T E P Q : Type 0} (r : Result T E) → (P → Q) → OnOk r P → OnOk r Q
OnOk-by (Ok x) f p = f p
OnOk-by (Err e) f p = tt

-- What is taken off a list is its first item.
pub first_taken : {X : Type 0} (first : Option X) (old new : Roomy X) → IfSome first (λ x. old.items ≡ x ∷ new.items)
    → IfNone first ((old.items ≡ []) × (new ≡ old)) → (first ≡ slice_get old.items 0) × (new.items ≡ drop 1 old.items)
first_taken (Some x) old new some none = (rw some refl, rw some refl)
first_taken None old new some none = (rw none.0 refl, ap (λ line. line.items) none.1 ∙ rw none.0 refl)

pub same_capacity : {X : Type 0} (first : Option X) (old new : Roomy X) → IfSome first (λ x. old.items ≡ x ∷ new.items)
    → IfSome first (λ x. new.spare ≡ old.spare + 1) → IfNone first ((old.items ≡ []) × (new ≡ old)) → capacity new ≡ capacity old
same_capacity (Some x) old new some more none = rw (some, more) (omega arith)
same_capacity None old new some more none = ap capacity none.1
