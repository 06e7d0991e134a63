-- A step more of a counter, the answers of two passes that are joined, and the turns that they made.
use Rattle.std.proofs.Common.{◌≡◌, ◌⊎◌, inl, inr, ℕ, suc, ◌+◌, ◌<◌, ◌≤◌, ◌^◌, List, [], ◌∷◌, ◌++◌, length, map, cond, ap, ⊎_elim, arith}
use Rattle.std.specs.Prelude.{◌==◌}
use Rattle.std.proofs.lemmas.List.Sums.{sum_by-cons}
use Rattle.counter_lock.specs.declared.counter.Up.{Up}
use Rattle.counter_lock.specs.Counting.{CountsFrom, answer_of}
use Rattle.turn_lock.specs.Shares.{times, once_below, Interleaves}
use Rattle.turn_lock.proofs.Sums.{once_below-suc}

pub CountsFrom-snoc : (n : ℕ) (h : List Up) (e : Up) → CountsFrom n h → e.answer ≡ n + length h → CountsFrom n (h ++ e ∷ [])
CountsFrom-snoc n [] e all is = (omega arith, tt)
CountsFrom-snoc n (x ∷ xs) e all is = (all.0, CountsFrom-snoc (suc n) xs e all.1 (omega arith))

abbrev answers : List Up → List ℕ
answers = map answer_of

times-cons : (k : ℕ) (x : ℕ) (xs : List ℕ) → times k (x ∷ xs) ≡ times k (x ∷ []) + times k xs
times-cons k x xs =
    let a = sum_by-cons (λ (y : ℕ). cond (y == k) 1 0) x xs in let b = sum_by-cons (λ (y : ℕ). cond (y == k) 1 0) x [] in
    omega arith

-- answers that are places are each number of a range, once
pub times-CountsFrom : (k n : ℕ) (h : List Up) → CountsFrom n h
    → times k (answers h) + once_below k n ≡ once_below k (n + length h)
times-CountsFrom k n [] all =
    let e : n ≡ n + 0 = omega arith in let o : once_below k n ≡ once_below k (n + 0) = ap (once_below k) e in omega arith
times-CountsFrom k n (x ∷ xs) all =
    let r = times-CountsFrom k (suc n) xs all.1 in let a = times-cons k x.answer (answers xs) in let o = once_below-suc k n in
    let first : times k (x.answer ∷ []) ≡ times k (n ∷ []) = ap (λ (m : ℕ). times k (m ∷ [])) all.0 in
    let e : once_below k (suc n + length xs) ≡ once_below k (n + suc (length xs)) =
    let m : suc n + length xs ≡ n + suc (length xs) = omega arith in ap (once_below k) m in omega arith

pub times-Interleaves : (k : ℕ) (xs ys zs : List Up) → Interleaves xs ys zs
    → times k (answers zs) ≡ times k (answers xs) + times k (answers ys)
times-Interleaves k xs ys [] i =
    let a : times k (answers xs) ≡ 0 = ap (λ (l : List Up). times k (answers l)) i.0 in let b : times k (answers ys) ≡ 0 =
    ap (λ (l : List Up). times k (answers l)) i.1 in omega arith
times-Interleaves k xs ys (z ∷ zs) i = ⊎_elim
    (λ (t : (rest : List Up) × (xs ≡ z ∷ rest) × Interleaves rest ys zs). let r = times-Interleaves k t.0 ys zs t.2 in let a =
    times-cons k z.answer (answers zs) in let b = times-cons k z.answer (answers t.0) in
    let e : times k (answers xs) ≡ times k (z.answer ∷ answers t.0) =
    ap (λ (l : List Up). times k (answers l)) t.1 in omega arith)
    (λ (t : (rest : List Up) × (ys ≡ z ∷ rest) × Interleaves xs rest zs). let r = times-Interleaves k xs t.0 zs t.2 in let a =
    times-cons k z.answer (answers zs) in let b = times-cons k z.answer (answers t.0) in
    let e : times k (answers ys) ≡ times k (z.answer ∷ answers t.0) =
    ap (λ (l : List Up). times k (answers l)) t.1 in omega arith) i

-- all turns of both, or a full history that one of both saw: a and b turns of m and n, where one saw s and the other t steps, and u after the join
pub made_both : (a b m n s t u : ℕ) → (a ≡ m) ⊎ (2 ^ 62 ≤ s) → (b ≡ n) ⊎ (2 ^ 62 ≤ t) → s ≤ u → t ≤ u
    → (a + b ≡ m + n) ⊎ (2 ^ 62 ≤ u)
made_both a b m n s t u p q l k =
    ⊎_elim (λ (e : a ≡ m). ⊎_elim (λ (f : b ≡ n). inl (omega arith)) (λ (f : 2 ^ 62 ≤ t). inr (omega arith)) q)
    (λ (e : 2 ^ 62 ≤ s). inr (omega arith)) p

-- fewer turns than the history has room for were all made
pub made_all : (a m s : ℕ) → (a ≡ m) ⊎ (2 ^ 62 ≤ s) → s ≡ a → a ≤ m → m < 2 ^ 62 → a ≡ m
made_all a m s p e l k = ⊎_elim (λ (f : a ≡ m). f) (λ (f : 2 ^ 62 ≤ s). absurd (omega arith)) p
