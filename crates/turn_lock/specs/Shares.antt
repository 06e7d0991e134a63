-- Places of steps in a history, from 0, and the shares that passes have of them.
use Rattle.std.specs.Prelude.{◌≡◌, ◌⊎◌, ℕ, zero, suc, nat_lt, ◌==◌, if◌then◌else◌, List, [], ◌∷◌, ◌++◌, sum_by, count_by, map}

-- how often the place p stands in a share
abbrev pub times : ℕ → List ℕ → ℕ
times p share = count_by (λ x. x == p) share

-- how often it stands in all shares of a pass
abbrev pub times_in : ℕ → List (List ℕ) → ℕ
times_in p shares = sum_by (times p) shares

-- the first list gets one element more, at its end
abbrev pub to_first : {A : Type 0} → List (List A) → A → List (List A)
to_first [] x = (x ∷ []) ∷ []
to_first (xs ∷ xss) x = (xs ++ x ∷ []) ∷ xss

-- 1 for a place below n, and else 0
abbrev pub once_below : ℕ → ℕ → ℕ
once_below p n = if nat_lt p n then 1 else 0

module _ {E : Type 0} where
  abbrev pub add_unless_zero : ℕ → E → List E → List E
  add_unless_zero zero e es = es
  add_unless_zero (suc n) e es = e ∷ es

  -- of the steps es, which begin at the place k, those whose places stand in the shares, in the order of their places
  abbrev pub steps_at : List (List ℕ) → ℕ → List E → List E
  steps_at shares k [] = []
  steps_at shares k (e ∷ es) = add_unless_zero (times_in k shares) e (steps_at shares (suc k) es)

  -- the same share by share
  abbrev pub steps_of_each : List (List ℕ) → List E → List (List E)
  steps_of_each shares es = map (λ share. steps_at (share ∷ []) 0 es) shares

  -- zs has the elements of xs and those of ys, each once, and both in their order
  abbrev pub Interleaves : List E → List E → List E → Type 0
  Interleaves xs ys [] = (xs ≡ []) × (ys ≡ [])
  Interleaves xs ys (z ∷ zs) =
      ((rest : List E) × (xs ≡ z ∷ rest) × Interleaves rest ys zs) ⊎ ((rest : List E) × (ys ≡ z ∷ rest) × Interleaves xs rest zs)
