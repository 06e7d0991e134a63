-- Lists by a key, each with the places that it has to spare.
use Rattle.std.specs.Prelude.{◌≡◌, ◌≢◌, ℕ, ◌+◌, ◌≤◌, List, [], ◌∷◌, ◌++◌, drop, slice_get, unwrap_or, Option, Result, IsOk, OnOk, OnErr, refl}
use Rattle.std.specs.Coded.{Coded, code_by, coded×, coded_list, coded_ℕ}
use Rattle.std.specs.FinMap.{FinMap, get}
use Rattle.std.specs.declared.cmp.Ordering.{Ordering}
use Rattle.cell_codec.specs.Roomy.{Roomy, capacity}

-- Nothing waits, and there is no room.
abbrev pub nothing : {X : Type 0} → Roomy X
nothing = record { items = []; spare = 0 }

module _ {K X : Type 0} {R : K → K → Ordering} where
  -- The list at a key. Where there is no entry nothing waits.
  abbrev pub line_at : FinMap R (Roomy X) → K → Roomy X
  line_at lines key = unwrap_or (get lines key) nothing

  -- Only the list at this key changes.
  abbrev pub OthersStay : FinMap R (Roomy X) → FinMap R (Roomy X) → K → Type 0
  OthersStay old new key = (other : K) → other ≢ key → line_at new other ≡ line_at old other

-- The list at the key has room for so many more items, or memory is wanting and nothing changed.
pub record Reserves {K X T E : Type 0} {R : K → K → Ordering} (old new : FinMap R (Roomy X)) (key : K) (more : ℕ)
    (r : Result T E) : Type 0 where
  pub items : (line_at new key).items ≡ (line_at old key).items
  pub ok : OnOk r (more ≤ (line_at new key).spare)
  pub kept : (line_at old key).spare ≤ (line_at new key).spare
  pub others : OthersStay old new key
  pub err : OnErr r (new ≡ old)
  pub room : more ≤ (line_at old key).spare → IsOk r

-- An item stands last in the list at the key, in a place that was spare.
pub record AddsLast {K X : Type 0} {R : K → K → Ordering} (old new : FinMap R (Roomy X)) (key : K) (item : X) : Type 0 where
  pub items : (line_at new key).items ≡ (line_at old key).items ++ item ∷ []
  pub spare : (line_at new key).spare + 1 ≡ (line_at old key).spare
  pub others : OthersStay old new key

-- The first item of the list at the key leaves it, and its place is spare.
pub record TakesFirst {K X : Type 0} {R : K → K → Ordering} (old new : FinMap R (Roomy X)) (key : K) (first : Option X) : Type 0
  where
    pub item : first ≡ slice_get (line_at old key).items 0
    pub items : (line_at new key).items ≡ drop 1 (line_at old key).items
    pub capacity : capacity (line_at new key) ≡ capacity (line_at old key)
    pub others : OthersStay old new key

-- The list at the key goes, and its room.
pub record Empties {K X : Type 0} {R : K → K → Ordering} (old new : FinMap R (Roomy X)) (key : K) : Type 0 where
  pub nothing : line_at new key ≡ nothing
  pub others : OthersStay old new key

abbrev pub roomy_code : {X : Type 0} → Coded X → Coded (Roomy X)
roomy_code {X} items =
    code_by (List X × ℕ) (coded× (coded_list items) coded_ℕ) (λ line. (line.items, line.spare))
    (λ p. record { items = p.0; spare = p.1 }) (λ _. refl)
