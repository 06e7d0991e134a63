-- Four words of the schedule from the sixteen before them, as vectors make them.
use Rattle.std.proofs.Common.{◌≡◌, ℕ, ◌+◌, ◌<◌, ◌≤◌, ◌^◌, ◌∷◌, [], List, get_or, refl, sym, ap, ◌∙◌, subst, arith, bit_xor, Fits}
use Rattle.std.specs.Simd.Lanes.{zip2, Each1}
use Rattle.std.specs.Int.{w32, rotate_left}
use Rattle.std.specs.Int.Bits.{xor_zero_r}
use Rattle.std.proofs.lemmas.Nat.{xor_lt}
use Rattle.run_digest.specs.Words.{word, four_words}
use Rattle.run_digest.proofs.Turn.{share_later, turn_fits}
use Rattle.run_digest.proofs.ScheduleWords.{word_next}

-- The word behind sixteen, of the words that these numbers count.
abbrev pub next : List ℕ → ℕ → ℕ → ℕ → ℕ → ℕ
next block p q r s =
    rotate_left w32 (bit_xor (bit_xor (bit_xor (word block p) (word block q)) (word block r)) (word block s)) 1

made : (block : List ℕ) (t p q r s : ℕ) → t < 80 → p + 3 ≡ t → q + 8 ≡ t → r + 14 ≡ t → s + 16 ≡ t →
    next block p q r s ≡ word block t
made block t p q r s lt ep eq er es = sym (word_next block t p q r s lt ep eq er es)

same_four : {p q r s u v w x : ℕ} → p ≡ u → q ≡ v → r ≡ w → s ≡ x → p ∷ q ∷ r ∷ s ∷ [] ≡ u ∷ v ∷ w ∷ x ∷ []
same_four a b c d = cc

xored : (m t : List ℕ) {p q r s x : ℕ} → m ≡ p ∷ q ∷ r ∷ s ∷ [] → t ≡ 0 ∷ 0 ∷ 0 ∷ x ∷ [] →
    zip2 bit_xor m t ≡ p ∷ q ∷ r ∷ bit_xor s x ∷ []
xored m t {p} {q} {r} {s} {x} a b =
    ap (λ (l : List ℕ). zip2 bit_xor l t) a
    ∙ ap (λ (l : List ℕ). zip2 bit_xor (p ∷ q ∷ r ∷ s ∷ []) l) b
    ∙ same_four (xor_zero_r p) (xor_zero_r q) (xor_zero_r r) refl

-- Four words of the schedule, as a vector holds them.
abbrev pub FourFit : List ℕ → ℕ → Type 0
FourFit block n = Each1 (Fits w32) (four_words block n)

-- The last of the four is made without the first (0 in its place), and m's first is then turned in.
pub four_next : (block : List ℕ) (n : ℕ) (m t : List ℕ) → n + 20 ≤ 80 →
    FourFit block n → FourFit block (n + 4) → FourFit block (n + 8) → FourFit block (n + 12) →
    m ≡ next block (n + 12 + 1) (n + 8) (n + 2) n
    ∷ next block (n + 12 + 2) (n + 8 + 1) (n + 3) (n + 1)
    ∷ next block (n + 12 + 3) (n + 8 + 2) (n + 4) (n + 2)
    ∷ rotate_left w32 (bit_xor (bit_xor (word block (n + 8 + 3)) (word block (n + 4 + 1))) (word block (n + 3))) 1
    ∷ [] →
    t ≡ 0 ∷ 0 ∷ 0 ∷ rotate_left w32 (get_or m 0 0) 1 ∷ [] →
    zip2 bit_xor m t ≡ four_words block (n + 16)
four_next block n m t le fa fb fc fd em et =
    let first : get_or m 0 0 ≡ next block (n + 12 + 1) (n + 8) (n + 2) n = ap (λ (l : List ℕ). get_or l 0 0) em in
    let is_first : next block (n + 12 + 1) (n + 8) (n + 2) n ≡ word block (n + 16) =
    made block (n + 16) (n + 12 + 1) (n + 8) (n + 2) n
    (omega arith) (omega arith) (omega arith) (omega arith) (omega arith) in
    let two = xor_lt 32 (word block (n + 12 + 1)) (word block (n + 8)) fd.1.0.fits fc.0.fits in
    let three = xor_lt 32 _ (word block (n + 2)) two fa.1.1.0.fits in
    let four = xor_lt 32 _ (word block n) three fa.0.fits in
    let fits : word block (n + 16) < 2 ^ 32 = subst (λ (x : ℕ). x < 2 ^ 32) is_first (turn_fits _ four) in
    xored m t em (et ∙ ap (λ (x : ℕ). 0 ∷ 0 ∷ 0 ∷ rotate_left w32 x 1 ∷ []) (first ∙ is_first))
    ∙ same_four
    is_first
    (made block (n + 16 + 1) (n + 12 + 2) (n + 8 + 1) (n + 3) (n + 1)
    (omega arith) (omega arith) (omega arith) (omega arith) (omega arith))
    (made block (n + 16 + 2) (n + 12 + 3) (n + 8 + 2) (n + 4) (n + 2)
    (omega arith) (omega arith) (omega arith) (omega arith) (omega arith))
    (share_later (word block (n + 16)) (word block (n + 8 + 3)) (word block (n + 4 + 1)) (word block (n + 3))
    fits fc.1.1.1.0.fits fb.1.0.fits fa.1.1.1.0.fits
    ∙ made block (n + 16 + 3) (n + 16) (n + 8 + 3) (n + 4 + 1) (n + 3)
    (omega arith) (omega arith) (omega arith) (omega arith) (omega arith))
