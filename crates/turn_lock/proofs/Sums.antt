-- Sums over views, how often a place stands in shares, and beginnings of lists.
use Rattle.std.proofs.Common.{◌≡◌, ℕ, zero, suc, ◌+◌, ◌<◌, ◌≤◌, ◌≢◌, List, [], ◌∷◌, ◌++◌, length, set, sum_by, append-nil, append_assoc, length-append, sym, refl, ap, ◌∙◌, subst, arith}
use Rattle.std.specs.Prelude.{cond, ◌==◌, nat_lt, Bool, true, false, All, slice_index}
use Rattle.std.specs.List.Sorted.{IsStrictlyIncreasing}
use Rattle.std.proofs.lemmas.List.Elements.{All-nil, All-cons, All-head, All-tail}
use Rattle.std.proofs.lemmas.Bool.Decides.{nat_tests}
use Rattle.std.proofs.lemmas.Grind.{common_steps}
use Rattle.std.proofs.lemmas.List.{nil_from_length}
use Rattle.std.proofs.lemmas.List.Sums.{sum_by-append, sum_by-cons}
use mathlib.Core.Option.{some, some-injective, some-ne-none}
use mathlib.Core.List.{IsPrefix}
use lib.ListN.{get_elem?}
use Rattle.turn_lock.specs.Shares.{times, times_in, to_first, once_below}

module _ {A : Type 0} (f : A → ℕ) where
  pub sum_by-changed : (l : List A) (i : ℕ) (v w : A) → get_elem? l i ≡ some v → sum_by f (set l i w) + f v ≡ sum_by f l + f w
  sum_by-changed [] i v w e = absurd (some-ne-none v (sym e))
  sum_by-changed (x ∷ xs) zero v w e =
      let same : f x ≡ f v = ap f (some-injective x v e) in let a = sum_by-cons f w xs in let b =
      sum_by-cons f x xs in omega arith
  sum_by-changed (x ∷ xs) (suc i) v w e =
      let r = sum_by-changed xs i v w e in let a = sum_by-cons f x (set xs i w) in let b = sum_by-cons f x xs in omega arith

  pub sum_by-one : (l : List A) (i : ℕ) (v : A) → get_elem? l i ≡ some v → f v ≤ sum_by f l
  sum_by-one [] i v e = absurd (some-ne-none v (sym e))
  sum_by-one (x ∷ xs) zero v e = let same : f x ≡ f v = ap f (some-injective x v e) in let b = sum_by-cons f x xs in omega arith
  sum_by-one (x ∷ xs) (suc i) v e = let r = sum_by-one xs i v e in let b = sum_by-cons f x xs in omega arith

  pub sum_by-two : (l : List A) (i j : ℕ) (v w : A) → get_elem? l i ≡ some v → get_elem? l j ≡ some w → j ≢ i
      → f w + f v ≤ sum_by f l
  sum_by-two [] i j v w e e' n = absurd (some-ne-none v (sym e))
  sum_by-two (x ∷ xs) zero zero v w e e' n = absurd (n refl)
  sum_by-two (x ∷ xs) zero (suc j) v w e e' n =
      let same : f x ≡ f v = ap f (some-injective x v e) in let r = sum_by-one xs j w e' in let b =
      sum_by-cons f x xs in omega arith
  sum_by-two (x ∷ xs) (suc i) zero v w e e' n =
      let same : f x ≡ f w = ap f (some-injective x w e') in let r = sum_by-one xs i v e in let b =
      sum_by-cons f x xs in omega arith
  sum_by-two (x ∷ xs) (suc i) (suc j) v w e e' n =
      let r = sum_by-two xs i j v w e e' (λ h. n (ap suc h)) in let b = sum_by-cons f x xs in omega arith

  sum_by-none : (l : List A) → ((j : ℕ) (u : A) → get_elem? l j ≡ some u → f u ≡ 0) → sum_by f l ≡ 0
  sum_by-none [] none = refl
  sum_by-none (x ∷ xs) none =
      let a = none 0 x refl in let r = sum_by-none xs (λ j u e. none (suc j) u e) in let b = sum_by-cons f x xs in omega arith

  -- where the others have none, the sum is one value's
  pub sum_by-only : (l : List A) (i : ℕ) (v : A) → get_elem? l i ≡ some v
      → ((j : ℕ) (u : A) → j ≢ i → get_elem? l j ≡ some u → f u ≡ 0) → sum_by f l ≡ f v
  sum_by-only [] i v e none = absurd (some-ne-none v (sym e))
  sum_by-only (x ∷ xs) zero v e none =
      let same : f x ≡ f v = ap f (some-injective x v e) in let r =
      sum_by-none xs (λ j u h. none (suc j) u (λ z. let y : suc j ≡ 0 = z in absurd (omega arith)) h) in let b =
      sum_by-cons f x xs in omega arith
  sum_by-only (x ∷ xs) (suc i) v e none = let a = none 0 x (λ z. let y : 0 ≡ suc i = z in absurd (omega arith)) refl in
      let r =
      sum_by-only xs i v e (λ j u n h. none (suc j) u (λ z. n (let y : suc j ≡ suc i = z in omega arith)) h) in let b =
      sum_by-cons f x xs in omega arith

pub times_in-append : (p : ℕ) (xs ys : List (List ℕ)) → times_in p (xs ++ ys) ≡ times_in p xs + times_in p ys
times_in-append p xs ys = sum_by-append (times p) xs ys

-- a place more in the first share
pub times_in-to_first : (p q : ℕ) (ss : List (List ℕ)) → times_in p (to_first ss q) ≡ times_in p ss + times p (q ∷ [])
times_in-to_first p q [] = let b = sum_by-cons (times p) (q ∷ []) [] in omega arith
times_in-to_first p q (s ∷ ss) =
    let r : times p (s ++ q ∷ []) ≡ times p s + times p (q ∷ []) = sum_by-append (λ (x : ℕ). cond (x == p) 1 0) s (q ∷ []) in
    let a = sum_by-cons (times p) (s ++ q ∷ []) ss in let b = sum_by-cons (times p) s ss in omega arith

pub once_below-suc : (p n : ℕ) → once_below p (suc n) ≡ once_below p n + times p (n ∷ [])
once_below-suc p n = grind (arith, nat_tests, common_steps)

pub once_below-le : (p n : ℕ) → once_below p n ≤ 1
once_below-le p n = grind (arith, nat_tests, common_steps)

pub once_below-zero : (p : ℕ) → once_below p 0 ≡ 0
once_below-zero p = grind (arith, nat_tests, common_steps)

pub once_below-one : (p n : ℕ) → p < n → once_below p n ≡ 1
once_below-one p n l = grind (arith, nat_tests, common_steps)

pub times-same : (p n : ℕ) → p ≡ n → times p (n ∷ []) ≡ 1
times-same p n l = grind (arith, nat_tests, common_steps)

pub times-below : (p n : ℕ) → p < n → times p (n ∷ []) ≡ 0
times-below p n l = grind (arith, nat_tests, common_steps)

pub times-above : (p n : ℕ) → n < p → times p (n ∷ []) ≡ 0
times-above p n l = grind (arith, nat_tests, common_steps)

-- a place that stands in a list lies below n, where no place from n on does
below_by : (b : Bool) (p n : ℕ) (ps : List ℕ) → nat_lt p n ≡ b → ((q : ℕ) → n ≤ q → times q (p ∷ ps) ≡ 0) → p < n
below_by true p n ps e low = grind (arith, nat_tests)
below_by false p n ps e low =
    let l : n ≤ p = grind (arith, nat_tests) in let z = low p l in let o = times-same p p refl in let a =
    sum_by-cons (λ (x : ℕ). cond (x == p) 1 0) p ps in
    let b = sum_by-cons (λ (x : ℕ). cond (x == p) 1 0) p [] in absurd (omega arith)

none_after : (p n : ℕ) (ps : List ℕ) → ((q : ℕ) → n ≤ q → times q (p ∷ ps) ≡ 0) → (q : ℕ) → n ≤ q → times q ps ≡ 0
none_after p n ps low q l = let z = low q l in let a = sum_by-cons (λ (x : ℕ). cond (x == q) 1 0) p ps in omega arith

increasing-tail : (p : ℕ) (ps : List ℕ) → IsStrictlyIncreasing (p ∷ ps) → IsStrictlyIncreasing ps
increasing-tail p ps up k l =
    let e : suc k + 1 ≡ suc (k + 1) =
    omega arith in subst (λ (m : ℕ). slice_index (p ∷ ps) (suc k) < slice_index (p ∷ ps) m) e (up (suc k) (omega arith))

increasing-snoc : (ps : List ℕ) (n : ℕ) → IsStrictlyIncreasing ps → ((q : ℕ) → n ≤ q → times q ps ≡ 0)
    → IsStrictlyIncreasing (ps ++ n ∷ [])
increasing-snoc [] n up low k l = absurd (omega arith)
increasing-snoc (p ∷ []) n up low zero l = below_by (nat_lt p n) p n [] refl low
increasing-snoc (p ∷ []) n up low (suc k) l = absurd (omega arith)
increasing-snoc (p ∷ q ∷ qs) n up low zero l = up 0 (omega arith)
increasing-snoc (p ∷ q ∷ qs) n up low (suc k) l = let e : suc k + 1 ≡ suc (k + 1) = omega arith in
    let r = increasing-snoc (q ∷ qs) n (increasing-tail p (q ∷ qs) up) (none_after p n (q ∷ qs) low) k (omega arith) in
    subst (λ (m : ℕ). slice_index (p ∷ q ∷ (qs ++ n ∷ [])) (suc k) < slice_index (p ∷ q ∷ (qs ++ n ∷ [])) m) (sym e) r

-- a place above all others goes to the first share
pub rising-to_first : (ss : List (List ℕ)) (n : ℕ) → ((p : ℕ) → n ≤ p → times_in p ss ≡ 0) → All IsStrictlyIncreasing ss
    → All IsStrictlyIncreasing (to_first ss n)
rising-to_first [] n low up =
    All-cons IsStrictlyIncreasing (n ∷ []) [] (λ k l. absurd (omega arith)) (All-nil IsStrictlyIncreasing)
rising-to_first (s ∷ ss) n low up = All-cons IsStrictlyIncreasing (s ++ n ∷ []) ss
    (increasing-snoc s n (All-head IsStrictlyIncreasing s ss up) (λ p l. let z = low p l in let a = sum_by-cons (times p) s ss in
    omega arith))
    (All-tail IsStrictlyIncreasing s ss up)

module _ {A : Type 0} where
  pub set-here : (l : List A) (i : ℕ) (v w : A) → get_elem? l i ≡ some v → get_elem? (set l i w) i ≡ some w
  set-here [] i v w e = absurd (some-ne-none v (sym e))
  set-here (x ∷ xs) zero v w e = refl
  set-here (x ∷ xs) (suc i) v w e = set-here xs i v w e

  pub length-snoc : (xs : List A) (x : A) → length (xs ++ x ∷ []) ≡ suc (length xs)
  length-snoc xs x = omega (arith, length-append xs (x ∷ []))

  pub prefix-self : (xs : List A) → IsPrefix xs xs
  prefix-self xs = ([], append-nil xs)

  pub prefix-through : (xs ys zs : List A) → IsPrefix xs ys → IsPrefix ys zs → IsPrefix xs zs
  prefix-through xs ys zs p q = (p.0 ++ q.0, sym (append_assoc xs p.0 q.0) ∙ (ap (λ (l : List A). l ++ q.0) p.1 ∙ q.1))

  pub prefix-length : (xs ys : List A) → IsPrefix xs ys → length xs ≤ length ys
  prefix-length xs ys p = let n : length (xs ++ p.0) ≡ length ys = ap length p.1 in omega (arith, length-append xs p.0)

  abbrev front : A → List A → A
  front d [] = d
  front d (x ∷ xs) = x

  abbrev after_front : List A → List A
  after_front [] = []
  after_front (x ∷ xs) = xs

  -- of two beginnings of one list the shorter begins the longer
  pub prefix-both : (xs ys zs : List A) → IsPrefix xs zs → IsPrefix ys zs → length xs ≤ length ys → IsPrefix xs ys
  prefix-both [] ys zs p q l = (ys, refl)
  prefix-both (x ∷ xs) [] zs p q l = absurd (omega arith)
  prefix-both (x ∷ xs) (y ∷ ys) [] p q l = let n : length (x ∷ (xs ++ p.0)) ≡ 0 = ap length p.1 in absurd (omega arith)
  prefix-both (x ∷ xs) (y ∷ ys) (z ∷ zs) p q l =
      let r = prefix-both xs ys zs (p.0, ap after_front p.1) (q.0, ap after_front q.1) (omega arith) in
      let e : x ≡ y =
      ap (front x) p.1 ∙ sym (ap (front x) q.1) in (r.0, ap (λ (l : List A). x ∷ l) r.1 ∙ ap (λ (h : A). h ∷ ys) e)

  pub prefix-whole : (xs ys : List A) → IsPrefix xs ys → length ys ≤ length xs → xs ≡ ys
  prefix-whole xs ys p l =
      let n : length (xs ++ p.0) ≡ length ys = ap length p.1 in let z : length p.0 ≡ 0 = omega (arith, length-append xs p.0) in
      sym (append-nil xs) ∙ (ap (λ (t : List A). xs ++ t) (sym (nil_from_length p.0 z)) ∙ p.1)
