-- The words of a block's message schedule, one by one.
use Rattle.std.proofs.Common.{◌≡◌, ℕ, zero, suc, ◌+◌, ◌*◌, ◌-◌, ◌<◌, ◌≤◌, ◌⊎◌, inl, inr, ◌++◌, ◌∷◌, [], List, length, get_or, refl, sym, ap, ◌∙◌, arith, length-append, bit_xor}
use Rattle.std.proofs.Math.Seq.{get_or-append_seam}
use Rattle.std.proofs.lemmas.List.{get_or_append_left}
use Rattle.std.specs.Int.{w32, rotate_left}
use Rattle.sha1.specs.Sha1.{word_at, first_words, next_word, schedule}
use Rattle.run_digest.specs.Words.{word}

length-first_words : (b : List ℕ) (n : ℕ) → length (first_words b n) ≡ n
unfolding first_words
length-first_words b zero = refl
length-first_words b (suc n) = grind (arith, length-append, length-first_words b n)

length-schedule : (b : List ℕ) (n : ℕ) → length (schedule b n) ≡ n + 16
unfolding schedule
length-schedule b zero = length-first_words b 16
length-schedule b (suc n) = grind (arith, length-append, length-schedule b n)

lt_or_last : (t n : ℕ) → t < suc n → (t < n) ⊎ (t ≡ n)
lt_or_last t n lt = grind arith

at_end : (xs : List ℕ) (x t : ℕ) → t ≡ length xs → get_or (xs ++ x ∷ []) t 0 ≡ x
at_end xs x t e = rw e (get_or-append_seam xs x [] 0)

first_word : (b : List ℕ) (n t : ℕ) → t < n → get_or (first_words b n) t 0 ≡ word_at b (4 * t)
unfolding first_words
first_word b zero t lt = absurd (omega arith)
first_word b (suc n) t lt = elim (lt_or_last t n lt) [
  | inl l ↦
      get_or_append_left (first_words b n) (word_at b (4 * n) ∷ []) 0 t (omega (arith, length-first_words b n))
      ∙ first_word b n t l
  | inr e ↦
      at_end (first_words b n) (word_at b (4 * n)) t (e ∙ sym (length-first_words b n))
      ∙ ap (λ (m : ℕ). word_at b (4 * m)) (sym e)
]

-- A longer schedule begins with the shorter ones.
kept_one : (b : List ℕ) (n t : ℕ) → t < n + 16 → get_or (schedule b (suc n)) t 0 ≡ get_or (schedule b n) t 0
unfolding schedule
kept_one b n t lt = get_or_append_left (schedule b n) _ 0 t (omega (arith, length-schedule b n))

kept : (b : List ℕ) (n k t : ℕ) → t < n + 16 → get_or (schedule b (n + k)) t 0 ≡ get_or (schedule b n) t 0
kept b n zero t lt = let e : n + 0 ≡ n = omega arith in ap (λ (m : ℕ). get_or (schedule b m) t 0) e
kept b n (suc k) t lt =
    let e : n + suc k ≡ suc (n + k) = omega arith in
    ap (λ (m : ℕ). get_or (schedule b m) t 0) e ∙ kept_one b (n + k) t (omega arith) ∙ kept b n k t lt

kept_to : (b : List ℕ) (n m t : ℕ) → n ≤ m → t < n + 16 → get_or (schedule b m) t 0 ≡ get_or (schedule b n) t 0
kept_to b n m t le lt =
    let e : m ≡ n + (m - n) = omega arith in
    ap (λ (k : ℕ). get_or (schedule b k) t 0) e ∙ kept b n (m - n) t lt

newest : (b : List ℕ) (n : ℕ) → get_or (schedule b (suc n)) (n + 16) 0 ≡ next_word (schedule b n) (n + 16)
unfolding schedule
newest b n = at_end (schedule b n) (next_word (schedule b n) (n + 16)) (n + 16) (sym (length-schedule b n))

begins : (b : List ℕ) (t : ℕ) → t < 16 → get_or (schedule b 0) t 0 ≡ word_at b (4 * t)
unfolding schedule
begins b t lt = first_word b 16 t lt

pub word_first : (b : List ℕ) (t : ℕ) → t < 16 → word b t ≡ word_at b (4 * t)
unfolding word
word_first b t lt = kept_to b 0 64 t (omega arith) (omega arith) ∙ begins b t lt

same4 : (f : ℕ → ℕ → ℕ → ℕ → ℕ) {p q r s u v w x : ℕ} → p ≡ u → q ≡ v → r ≡ w → s ≡ x → f p q r s ≡ f u v w x
same4 f a b c d = cc

older : (b : List ℕ) (n k t : ℕ) → n < 64 → t < n + 16 → k ≡ t → get_or (schedule b n) k 0 ≡ get_or (schedule b 64) t 0
older b n k t le lt e = ap (λ (m : ℕ). get_or (schedule b n) m 0) e ∙ sym (kept_to b n 64 t (omega arith) lt)

-- A word of the schedule from the four that it is made of.
pub word_next : (b : List ℕ) (t p q r s : ℕ) → t < 80 → p + 3 ≡ t → q + 8 ≡ t → r + 14 ≡ t → s + 16 ≡ t →
    word b t ≡ rotate_left w32 (bit_xor (bit_xor (bit_xor (word b p) (word b q)) (word b r)) (word b s)) 1
unfolding word
word_next b t p q r s lt ep eq er es =
    let n : ℕ = t - 16 in
    let whole : t ≡ n + 16 = omega arith in
    let low : n < 64 = omega arith in
    kept_to b (suc n) 64 t (omega arith) (omega arith)
    ∙ ap (λ (m : ℕ). get_or (schedule b (suc n)) m 0) whole
    ∙ newest b n
    ∙ same4 (λ (u v w x : ℕ). rotate_left w32 (bit_xor (bit_xor (bit_xor u v) w) x) 1)
    (older b n (n + 16 - 3) p low (omega arith) (omega arith))
    (older b n (n + 16 - 8) q low (omega arith) (omega arith))
    (older b n (n + 16 - 14) r low (omega arith) (omega arith))
    (older b n (n + 16 - 16) s low (omega arith) (omega arith))
