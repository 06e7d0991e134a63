-- Words of the schedule in an array, as vectors read and write them.
use Rattle.std.proofs.Common.{◌≡◌, ℕ, zero, suc, ◌+◌, ◌-◌, ◌<◌, ◌≤◌, inl, inr, ◌++◌, ◌∷◌, [], List, length, take, drop, get_or, refl, ap, ◌∙◌, arith}
use Rattle.std.specs.Simd.Lanes.{chunk}
use Rattle.std.proofs.lemmas.Bool.{cases_lt}
use Rattle.std.proofs.lemmas.List.{get_or_append_left, get_or-append_right, get_or-take, length-take-le}
use Rattle.std.proofs.lemmas.Simd.{get_or-chunk, length-chunk}
use Rattle.run_digest.specs.Words.{HasWords, word, four_words}

in_four : (block : List ℕ) (at : ℕ) (tail : List ℕ) (i : ℕ) → i < 4
    → get_or (four_words block at ++ tail) i 0 ≡ word block (at + i)
in_four block at tail zero lt = let e : at ≡ at + 0 = omega arith in ap (word block) e
in_four block at tail (suc zero) lt = refl
in_four block at tail (suc (suc zero)) lt = refl
in_four block at tail (suc (suc (suc zero))) lt = refl
in_four block at tail (suc (suc (suc (suc i)))) lt = absurd (omega arith)

pub stored : (block words four tail : List ℕ) (at : ℕ) → at ≤ length words → HasWords block at words
    → four ≡ four_words block at →
    (t : ℕ) → t < at + 4 → get_or (take at words ++ (four ++ tail)) t 0 ≡ word block t
stored block words four tail at room has is t lt =
    let long : length (take at words) ≡ at = length-take-le at words room in
    elim (cases_lt t at) [
      | inl l ↦
          get_or_append_left (take at words) (four ++ tail) 0 t (omega arith)
          ∙ get_or-take at words t 0 l
          ∙ has t l
      | inr g ↦
          let low : t - at < 4 = omega arith in
          let e : at + (t - at) ≡ t = omega arith in
          get_or-append_right (take at words) (four ++ tail) at t 0 long g
          ∙ ap (λ (l : List ℕ). get_or (l ++ tail) (t - at) 0) is
          ∙ in_four block at tail (t - at) low
          ∙ ap (word block) e
    ]

four_lanes : (xs : List ℕ) → length xs ≡ 4 → xs ≡ get_or xs 0 0 ∷ get_or xs 1 0 ∷ get_or xs 2 0 ∷ get_or xs 3 0 ∷ []
four_lanes [] e = absurd (omega arith)
four_lanes (a ∷ []) e = absurd (omega arith)
four_lanes (a ∷ b ∷ []) e = absurd (omega arith)
four_lanes (a ∷ b ∷ c ∷ []) e = absurd (omega arith)
four_lanes (a ∷ b ∷ c ∷ d ∷ []) e = refl
four_lanes (a ∷ b ∷ c ∷ d ∷ f ∷ xs) e = absurd (omega arith)

same_four : {p q r s u v w x : ℕ} → p ≡ u → q ≡ v → r ≡ w → s ≡ x → p ∷ q ∷ r ∷ s ∷ [] ≡ u ∷ v ∷ w ∷ x ∷ []
same_four a b c d = cc

lane_is : (block words : List ℕ) (at k n i t : ℕ) → k ≡ 4 → at + 4 ≤ n → at + 4 ≤ length words → HasWords block n words → i < 4
    → t ≡ at + i →
    get_or (chunk 0 4 (chunk at k words)) i 0 ≡ word block t
lane_is block words at k n i t is_four le room has lt e =
    let long : length (chunk at k words) ≡ k = length-chunk at k words (omega arith) in
    let same : at + (0 + i) ≡ t = omega arith in
    get_or-chunk 0 4 (chunk at k words) i 0 lt
    ∙ get_or-chunk at k words (0 + i) 0 (omega arith)
    ∙ ap (λ (j : ℕ). get_or words j 0) same
    ∙ has t (omega arith)

pub loaded : (block words : List ℕ) (at k n : ℕ) → k ≡ 4 → at + 4 ≤ n → at + 4 ≤ length words → HasWords block n words →
    chunk 0 4 (take k (drop at words)) ≡ four_words block at
loaded block words at k n is_four le room has =
    let long : length (chunk at k words) ≡ k = length-chunk at k words (omega arith) in
    let lanes : List ℕ = chunk 0 4 (chunk at k words) in
    four_lanes lanes (length-chunk 0 4 (chunk at k words) (omega arith))
    ∙ same_four
    (lane_is block words at k n 0 at is_four le room has (omega arith) (omega arith))
    (lane_is block words at k n 1 (at + 1) is_four le room has (omega arith) (omega arith))
    (lane_is block words at k n 2 (at + 2) is_four le room has (omega arith) (omega arith))
    (lane_is block words at k n 3 (at + 3) is_four le room has (omega arith) (omega arith))
