-- How often a test passes in a list of legs.
use Rattle.std.proofs.Common.{◌≡◌, ℕ, suc, ◌+◌, ◌<◌, ◌≤◌, Bool, true, false, cond, List, [], ◌∷◌, map, length, get_or, count_by, refl, sym, ap, ◌∙◌, inl, inr, arith}
use Rattle.std.proofs.lemmas.Bool.{cases_Bool}
use Rattle.std.proofs.lemmas.List.Sums.{sum_by-cons, get_or-le-sum_by}
use Rattle.std.proofs.lemmas.List.Sorted.{sum_by-IsPermutation}
use Rattle.std.specs.List.{All}
use Rattle.std.specs.List.Sorted.{IsPermutation}
use Rattle.ewma_sched.specs.declared.roster.ReadyLeg.{ReadyLeg}

module _ (test : ReadyLeg → Bool) where
  pub count_cons : (w : ReadyLeg) (legs : List ReadyLeg)
      → count_by test (w ∷ legs) ≡ cond (test w) 1 0 + count_by test legs
  count_cons w legs = sum_by-cons (λ v. cond (test v) 1 0) w legs

  pub count_moved : (legs moved : List ReadyLeg) → IsPermutation legs moved
      → count_by test moved ≡ count_by test legs
  count_moved legs moved h = sum_by-IsPermutation (λ v. cond (test v) 1 0) legs moved h

  pub count_map : (f : ReadyLeg → ReadyLeg) → ((w : ReadyLeg) → test (f w) ≡ test w) → (legs : List ReadyLeg)
      → count_by test (map f legs) ≡ count_by test legs
  count_map f same [] = refl
  count_map f same (w ∷ legs) =
      sum_by-cons (λ v. cond (test v) 1 0) (f w) (map f legs)
      ∙ ap (λ b. cond b 1 0 + count_by test (map f legs)) (same w)
      ∙ ap (λ n. cond (test w) 1 0 + n) (count_map f same legs)
      ∙ sym (count_cons w legs)

  fails : (b : Bool) → cond b 1 0 ≤ 0 → b ≡ false
  fails false h = refl
  fails true h = absurd (omega arith)

  -- where the count is 0, no leg passes
  pub none_passes : (legs : List ReadyLeg) → count_by test legs ≡ 0 → All (λ w. test w ≡ false) legs
  none_passes legs none k d within =
      fails (test (get_or legs k d))
      (let part : cond (test (get_or legs k d)) 1 0 ≤ count_by test legs
      = get_or-le-sum_by (λ v. cond (test v) 1 0) legs k d within in
      omega arith)

  abbrev pub SomePasses : List ReadyLeg → Type 0
  SomePasses legs = (k : ℕ) × (k < length legs) × ((d : ReadyLeg) → test (get_or legs k d) ≡ true)

  first_passes : (w : ReadyLeg) (legs : List ReadyLeg) → test w ≡ true → SomePasses (w ∷ legs)
  first_passes w legs passes = (0, omega arith, λ d. passes)

  later_passes : (w : ReadyLeg) (legs : List ReadyLeg) → SomePasses legs → SomePasses (w ∷ legs)
  later_passes w legs later = let h = later.1 in (suc later.0, omega arith, λ d. later.2 d)

  -- where it is not, one does
  pub some_passes : (legs : List ReadyLeg) → 1 ≤ count_by test legs → SomePasses legs
  some_passes [] some = absurd (omega arith)
  some_passes (w ∷ legs) some =
      let count : count_by test (w ∷ legs) ≡ cond {A = ℕ} (test w) 1 0 + count_by test legs = count_cons w legs in
      elim (cases_Bool (test w)) [
        | inl passes ↦ first_passes w legs passes
        | inr missed ↦
            let none : cond {A = ℕ} (test w) 1 0 ≡ 0 = ap (λ b. cond {A = ℕ} b 1 0) missed in
            later_passes w legs (some_passes legs (omega arith))
      ]
