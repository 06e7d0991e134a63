-- Sums over the first circuits.
use Rattle.std.proofs.Common.{◌≡◌, ℕ, ◌+◌, ◌<◌, ◌≤◌, ◌==◌, false, zero, suc, subst, arith, inl, inr}
use Rattle.std.proofs.lemmas.Bool.Decides.{eqb_tells}
use Rattle.switch_model.proofs.Common.{not_equal}

abbrev pub sum_below : (ℕ → ℕ) → ℕ → ℕ
sum_below f zero = 0
sum_below f (suc n) = sum_below f n + f n

pub sum-most : (f g : ℕ → ℕ) → ((c : ℕ) → f c ≤ g c) → (n : ℕ) → sum_below f n ≤ sum_below g n
sum-most f g most zero = omega arith
sum-most f g most (suc n) = omega (arith, sum-most f g most n, most n)

sum-before : (f g : ℕ → ℕ) (d : ℕ) → ((c : ℕ) → (d == c) ≡ false → g c ≤ f c) → (n : ℕ) → n ≤ d →
    sum_below g n ≤ sum_below f n
sum-before f g d same zero below = omega arith
sum-before f g d same (suc n) below =
    let other : (d == n) ≡ false = not_equal d n (λ e. omega (arith, below, e)) in
    omega (arith, sum-before f g d same n (omega (arith, below)), same n other)

-- one circuit has one more at most
pub sum-more : (f g : ℕ → ℕ) (d : ℕ) → ((c : ℕ) → (d == c) ≡ false → g c ≤ f c) → g d ≤ f d + 1 → (n : ℕ) →
    sum_below g n ≤ sum_below f n + 1
sum-more f g d same more zero = omega arith
sum-more f g d same more (suc n) = elim (eqb_tells d n) [
  | inl (here, e) ↦
      let own : g n ≤ f n + 1 = subst (λ m. g m ≤ f m + 1) e more in
      omega (arith, sum-before f g d same n (omega (arith, e)), own)
  | inr (here, apart) ↦ omega (arith, sum-more f g d same more n, same n here)
]

-- one circuit has so many more
pub sum-up : (f g : ℕ → ℕ) (d k : ℕ) → ((c : ℕ) → f c ≤ g c) → f d + k ≤ g d → (n : ℕ) → d < n →
    sum_below f n + k ≤ sum_below g n
sum-up f g d k most more zero below = absurd (omega (arith, below))
sum-up f g d k most more (suc n) below = elim (eqb_tells d n) [
  | inl (here, e) ↦
      let own : f n + k ≤ g n = subst (λ m. f m + k ≤ g m) e more in
      omega (arith, sum-most f g most n, own)
  | inr (here, apart) ↦ omega (arith, sum-up f g d k most more n (omega (arith, below, apart)), most n)
]

pub none-all : (n : ℕ) → sum_below (λ c. 0) n ≤ 0
none-all zero = omega arith
none-all (suc n) = omega (arith, none-all n)
