-- Which steps a pass has: after more steps of others, after one of its own, after a join, and with every place.
use Rattle.std.proofs.Common.{◌≡◌, inl, inr, ℕ, zero, suc, ◌+◌, ◌<◌, ◌≤◌, List, [], ◌∷◌, ◌++◌, length, append-nil, sym, refl, ap, ◌∙◌, subst, ⊎_elim, arith}
use Rattle.std.specs.Prelude.{flat_map}
use mathlib.Core.List.{IsPrefix, map-append}
use Rattle.std.proofs.lemmas.List.Sums.{sum_by-cons}
use Rattle.turn_lock.specs.declared.view.View.{View}
use Rattle.turn_lock.specs.Shares.{times_in, to_first, once_below, add_unless_zero, steps_at, steps_of_each, Interleaves, times}
use Rattle.turn_lock.specs.Views.{HasAllSteps, own_steps, steps_by_share, new_part}
use Rattle.turn_lock.proofs.Sums.{times_in-append, times_in-to_first, times-same, times-below, once_below-one}

module _ {E : Type 0} where
  add-append : (n : ℕ) (x : E) (xs ys : List E) → add_unless_zero n x (xs ++ ys) ≡ add_unless_zero n x xs ++ ys
  add-append zero x xs ys = refl
  add-append (suc n) x xs ys = refl

  steps_at-append : (ss : List (List ℕ)) (k : ℕ) (xs ys : List E)
      → steps_at ss k (xs ++ ys) ≡ steps_at ss k xs ++ steps_at ss (k + length xs) ys
  steps_at-append ss k [] ys = let e : k ≡ k + 0 = omega arith in ap (λ (j : ℕ). steps_at ss j ys) e
  steps_at-append ss k (x ∷ xs) ys = let e : suc k + length xs ≡ k + suc (length xs) = omega arith in
      ap (add_unless_zero (times_in k ss) x) (steps_at-append ss (suc k) xs ys)
      ∙ (add-append (times_in k ss) x (steps_at ss (suc k) xs) (steps_at ss (suc k + length xs) ys)
      ∙ ap (λ (j : ℕ). add_unless_zero (times_in k ss) x (steps_at ss (suc k) xs) ++ steps_at ss j ys) e)

  -- past all places of the shares
  steps_at-none : (ss : List (List ℕ)) (k : ℕ) (xs : List E) → ((p : ℕ) → k ≤ p → times_in p ss ≡ 0) → steps_at ss k xs ≡ []
  steps_at-none ss k [] none = refl
  steps_at-none ss k (x ∷ xs) none =
      ap (λ (n : ℕ). add_unless_zero n x (steps_at ss (suc k) xs)) (none k (omega arith))
      ∙ steps_at-none ss (suc k) xs (λ p l. none p (omega arith))

  -- shares that have the same places below the end
  steps_at-same : (ss ts : List (List ℕ)) (k : ℕ) (xs : List E) → ((p : ℕ) → p < k + length xs → times_in p ss ≡ times_in p ts)
      → steps_at ss k xs ≡ steps_at ts k xs
  steps_at-same ss ts k [] same = refl
  steps_at-same ss ts k (x ∷ xs) same = ap (λ (n : ℕ). add_unless_zero n x (steps_at ss (suc k) xs)) (same k (omega arith))
      ∙ ap (add_unless_zero (times_in k ts) x) (steps_at-same ss ts (suc k) xs (λ p l. same p (omega arith)))

  -- steps that others made
  pub steps_at-more : (ss : List (List ℕ)) (seen log : List E) → ((p : ℕ) → length seen ≤ p → times_in p ss ≡ 0)
      → IsPrefix seen log → steps_at ss 0 log ≡ steps_at ss 0 seen
  steps_at-more ss seen log low more = ap (steps_at ss 0) (sym more.1) ∙ (steps_at-append ss 0 seen more.0
      ∙ (ap (λ (l : List E). steps_at ss 0 seen ++ l) (steps_at-none ss (0 + length seen) more.0 (λ p l. low p (omega arith)))
      ∙ append-nil (steps_at ss 0 seen)))

  -- one own step more
  pub steps_at-own : (ss : List (List ℕ)) (log : List E) (e : E)
      → steps_at (to_first ss (length log)) 0 (log ++ e ∷ []) ≡ steps_at ss 0 log ++ e ∷ []
  steps_at-own ss log e = let ts = to_first ss (length log) in let n : ℕ = times_in (0 + length log) ss in
      let here : times_in (0 + length log) ts ≡ suc n =
      let a = times_in-to_first (0 + length log) (length log) ss in let b =
      times-same (0 + length log) (length log) (omega arith) in omega arith in
      steps_at-append ts 0 log (e ∷ [])
      ∙ (ap (λ (k : ℕ). steps_at ts 0 log ++ add_unless_zero k e []) here
      ∙ ap (λ (l : List E). l ++ e ∷ [])
      (steps_at-same ts ss 0 log (λ p l. let a = times_in-to_first p (length log) ss in
      let b = times-below p (length log) (omega arith) in omega arith)))

  -- the same share by share: steps that others made
  pub steps_of_each-more : (ss : List (List ℕ)) (seen log : List E) → ((p : ℕ) → length seen ≤ p → times_in p ss ≡ 0)
      → IsPrefix seen log → steps_of_each ss log ≡ steps_of_each ss seen
  steps_of_each-more [] seen log low more = refl
  steps_of_each-more (s ∷ ss) seen log low more =
      ap (λ (l : List E). l ∷ steps_of_each ss log)
      (steps_at-more (s ∷ []) seen log (λ p l. let z = low p l in let a = sum_by-cons (times p) s ss in
      let b = sum_by-cons (times p) s [] in omega arith) more)
      ∙ ap (λ (ls : List (List E)). steps_at (s ∷ []) 0 seen ∷ ls)
      (steps_of_each-more ss seen log (λ p l. let z = low p l in let a = sum_by-cons (times p) s ss in omega arith) more)

  -- one own step more
  pub steps_of_each-own : (ss : List (List ℕ)) (log : List E) (e : E) → ((p : ℕ) → length log ≤ p → times_in p ss ≡ 0)
      → steps_of_each (to_first ss (length log)) (log ++ e ∷ []) ≡ to_first (steps_of_each ss log) e
  steps_of_each-own [] log e low =
      ap (λ (l : List E). l ∷ [])
      (steps_at-own [] log e ∙ ap (λ (l : List E). l ++ e ∷ []) (steps_at-none [] 0 log (λ p l. refl)))
  steps_of_each-own (s ∷ ss) log e low = ap (λ (l : List E). l ∷ steps_of_each ss (log ++ e ∷ [])) (steps_at-own (s ∷ []) log e)
      ∙ ap (λ (ls : List (List E)). (steps_at (s ∷ []) 0 log ++ e ∷ []) ∷ ls)
      (steps_of_each-more ss log (log ++ e ∷ []) (λ p l. let z = low p l in let a = sum_by-cons (times p) s ss in omega arith)
      (e ∷ [], refl))

  -- two passes that saw less
  pub steps_of_each-both : (ss ts : List (List ℕ)) (xs ys log : List E) → ((p : ℕ) → length xs ≤ p → times_in p ss ≡ 0)
      → ((p : ℕ) → length ys ≤ p → times_in p ts ≡ 0) → IsPrefix xs log → IsPrefix ys log
      → steps_of_each (ss ++ ts) log ≡ steps_of_each ss xs ++ steps_of_each ts ys
  steps_of_each-both ss ts xs ys log low low' more more' = map-append (λ (s : List ℕ). steps_at (s ∷ []) 0 log) ss ts
      ∙ (ap (λ (ls : List (List E)). ls ++ steps_of_each ts log) (steps_of_each-more ss xs log low more)
      ∙ ap (λ (ls : List (List E)). steps_of_each ss xs ++ ls) (steps_of_each-more ts ys log low' more'))

  steps_at-all : (ss : List (List ℕ)) (k : ℕ) (xs : List E) → ((p : ℕ) → k ≤ p → p < k + length xs → times_in p ss ≡ 1)
      → steps_at ss k xs ≡ xs
  steps_at-all ss k [] all = refl
  steps_at-all ss k (x ∷ xs) all =
      ap (λ (n : ℕ). add_unless_zero n x (steps_at ss (suc k) xs)) (all k (omega arith) (omega arith))
      ∙ ap (λ (l : List E). x ∷ l) (steps_at-all ss (suc k) xs (λ p l m. all p (omega arith) (omega arith)))

  both_step : (a b c : ℕ) (x : E) (us vs ws : List E) → c ≡ a + b → c ≤ 1 → Interleaves us vs ws
      → Interleaves (add_unless_zero a x us) (add_unless_zero b x vs) (add_unless_zero c x ws)
  both_step zero zero c x us vs ws is low r =
      let z : c ≡ 0 = omega arith in subst (λ (n : ℕ). Interleaves us vs (add_unless_zero n x ws)) (sym z) r
  both_step (suc a) zero c x us vs ws is low r =
      let z : c ≡ suc a =
      omega arith in subst (λ (n : ℕ). Interleaves (x ∷ us) vs (add_unless_zero n x ws)) (sym z) (inl (us, refl, r))
  both_step zero (suc b) c x us vs ws is low r =
      let z : c ≡ suc b =
      omega arith in subst (λ (n : ℕ). Interleaves us (x ∷ vs) (add_unless_zero n x ws)) (sym z) (inr (vs, refl, r))
  both_step (suc a) (suc b) c x us vs ws is low r = absurd (omega arith)

  -- the steps of two passes that have no step in common
  pub steps_at-both : (ss ts : List (List ℕ)) (k : ℕ) (xs : List E) → ((p : ℕ) → times_in p (ss ++ ts) ≤ 1)
      → Interleaves (steps_at ss k xs) (steps_at ts k xs) (steps_at (ss ++ ts) k xs)
  steps_at-both ss ts k [] once = (refl, refl)
  steps_at-both ss ts k (x ∷ xs) once =
      both_step (times_in k ss) (times_in k ts) (times_in k (ss ++ ts)) x (steps_at ss (suc k) xs) (steps_at ts (suc k) xs)
      (steps_at (ss ++ ts) (suc k) xs)
      (times_in-append k ss ts) (once k) (steps_at-both ss ts (suc k) xs once)

  -- as many elements as both have
  pub length-Interleaves : (xs ys zs : List E) → Interleaves xs ys zs → length zs ≡ length xs + length ys
  length-Interleaves xs ys [] i = let a : length xs ≡ 0 = ap length i.0 in let b : length ys ≡ 0 = ap length i.1 in omega arith
  length-Interleaves xs ys (z ∷ zs) i =
      ⊎_elim (λ (t : (rest : List E) × (xs ≡ z ∷ rest) × Interleaves rest ys zs). let r = length-Interleaves t.0 ys zs t.2 in
      let n : length xs ≡ suc (length t.0) = ap length t.1 in omega arith)
      (λ (t : (rest : List E) × (ys ≡ z ∷ rest) × Interleaves xs rest zs). let r = length-Interleaves xs t.0 zs t.2 in
      let n : length ys ≡ suc (length t.0) = ap length t.1 in omega arith) i

  pub Interleaves-swap : (xs ys zs : List E) → Interleaves xs ys zs → Interleaves ys xs zs
  Interleaves-swap xs ys [] i = (i.1, i.0)
  Interleaves-swap xs ys (z ∷ zs) i =
      ⊎_elim (λ (t : (rest : List E) × (xs ≡ z ∷ rest) × Interleaves rest ys zs). inr (t.0, t.1, Interleaves-swap t.0 ys zs t.2))
      (λ (t : (rest : List E) × (ys ≡ z ∷ rest) × Interleaves xs rest zs). inl (t.0, t.1, Interleaves-swap xs t.0 zs t.2)) i

module _ {N : Type 0} where
  both_empty : (l m : List N) → l ++ m ≡ [] → (l ≡ []) × (m ≡ [])
  both_empty [] m e = (refl, e)
  both_empty (x ∷ xs) m e = let z : length (x ∷ (xs ++ m)) ≡ 0 = ap length e in absurd (omega arith)

module _ {E N : Type 0} where
  -- what the one pass's steps tell, where the other's tell nothing
  pub flat_map-Interleaves : (g : E → List N) (xs ys zs : List E) → Interleaves xs ys zs → flat_map g ys ≡ []
      → flat_map g zs ≡ flat_map g xs
  flat_map-Interleaves g xs ys [] i none = sym (ap (flat_map g) i.0)
  flat_map-Interleaves g xs ys (z ∷ zs) i none =
      ⊎_elim (λ (t : (rest : List E) × (xs ≡ z ∷ rest) × Interleaves rest ys zs). ap (λ (l : List N). g z ++ l)
      (flat_map-Interleaves g t.0 ys zs t.2 none) ∙ sym (ap (flat_map g) t.1))
      (λ (t : (rest : List E) × (ys ≡ z ∷ rest) × Interleaves xs rest zs). let e =
      both_empty (g z) (flat_map g t.0) (sym (ap (flat_map g) t.1) ∙ none) in
      ap (λ (l : List N). l ++ flat_map g zs) e.0 ∙ flat_map-Interleaves g xs t.0 zs t.2 e.1) i

module _ {T E : Type 0} where
  pub all_steps : (v : View T E) → ((p : ℕ) → times_in p v.shares ≡ once_below p (length v.seen)) → HasAllSteps v
  all_steps v all = record {
    places = all;
    steps = steps_at-all v.shares 0 v.seen (λ p _ l. all p ∙ once_below-one p (length v.seen) (omega arith));
  }

  -- a new pass has no steps
  pub no_steps : (v : View T E) → (own_steps (new_part v) ≡ []) × (steps_by_share (new_part v) ≡ [] ∷ [])
  no_steps v =
      let none : steps_at ([] ∷ []) 0 v.seen ≡ [] = steps_at-none ([] ∷ []) 0 v.seen (λ p l. refl) in
      (none, ap (λ (l : List E). l ∷ []) none)
