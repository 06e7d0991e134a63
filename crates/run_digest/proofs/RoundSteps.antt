-- A round of a stage, after those before it.
use Rattle.std.proofs.Common.{◌≡◌, ℕ, suc, ◌+◌, ◌<◌, ◌≤◌, List, slice_index, [], ◌∷◌, length, get_or, refl, sym, ap, ◌∙◌, arith, nat_lt, cond}
use Rattle.std.proofs.lemmas.Bool.Decides.{nat_tests}
use Rattle.sha1.specs.Sha1.{add_state, compress, round, round_constant, round_fn, rounds, schedule}
use Rattle.run_digest.specs.Stage.{first_of}
use Rattle.run_digest.specs.Variables.{list_of}
use Rattle.run_digest.specs.declared.compress.Stage.{Stage}
use Rattle.run_digest.specs.declared.compress.Stage.TheVariants.{Choose, Parity, Majority, ParityAgain}
use Rattle.run_digest.specs.declared.compress.Variables.{Variables}

below : (t n p q : ℕ) → t < n → cond (nat_lt t n) p q ≡ p
below t n p q lt = grind (arith, nat_tests)

above : (t n p q : ℕ) → n ≤ t → cond (nat_lt t n) p q ≡ q
above t n p q le = grind (arith, nat_tests)

-- What a round takes by its stage.
abbrev by_stage : ℕ → ℕ → ℕ → ℕ → ℕ → ℕ
by_stage t p q r s = cond (nat_lt t 20) p (cond (nat_lt t 40) q (cond (nat_lt t 60) r s))

same_in_stage : (stage : Stage) (t p q r s : ℕ) → first_of stage ≤ t → t < first_of stage + 20 →
    by_stage t p q r s ≡ by_stage (first_of stage) p q r s
same_in_stage Choose t p q r s le lt = below t 20 _ _ (omega arith)
same_in_stage Parity t p q r s le lt = above t 20 _ _ (omega arith) ∙ below t 40 _ _ (omega arith)
same_in_stage Majority t p q r s le lt =
    above t 20 _ _ (omega arith) ∙ above t 40 _ _ (omega arith) ∙ below t 60 _ _ (omega arith)
same_in_stage ParityAgain t p q r s le lt =
    above t 20 _ _ (omega arith) ∙ above t 40 _ _ (omega arith) ∙ above t 60 _ _ (omega arith)

-- Round t, with this constant and this word.
abbrev step : List ℕ → ℕ → ℕ → ℕ → List ℕ
step v t k word = round v (round_fn t (slice_index v 1) (slice_index v 2) (slice_index v 3)) k word

rounds_next : (v w : List ℕ) (t : ℕ) →
    rounds v w (suc t)
    ≡ step (rounds v w t) t (round_constant t) (slice_index w t)
unfolding rounds
rounds_next v w t = refl

-- The variables after one more round of a stage.
pub next_round : (h w : List ℕ) (stage : Stage) (t u word : ℕ) (v next : Variables) →
    first_of stage ≤ t → t < first_of stage + 20 → u ≡ suc t → list_of v ≡ rounds h w t → word ≡ slice_index w t →
    list_of next ≡ step (list_of v) (first_of stage) (round_constant (first_of stage)) word →
    list_of next ≡ rounds h w u
next_round h w stage t u word v next le lt e before is stepped =
    let constant : round_constant t ≡ round_constant (first_of stage) = same_in_stage stage t _ _ _ _ le lt in
    stepped
    ∙ ap (step (list_of v) (first_of stage) (round_constant (first_of stage))) is
    ∙ ap (λ (k : ℕ). step (list_of v) (first_of stage) k (slice_index w t)) (sym constant)
    ∙ ap (λ (f : ℕ). round (list_of v) f (round_constant t) (slice_index w t)) (sym (same_in_stage stage t _ _ _ _ le lt))
    ∙ ap (λ (l : List ℕ). step l t (round_constant t) (slice_index w t)) before
    ∙ sym (rounds_next h w t)
    ∙ ap (rounds h w) (sym e)

pub rounds_start : (v w : List ℕ) → rounds v w 0 ≡ v
unfolding rounds
rounds_start v w = refl

pub compress_is : (h block : List ℕ) → compress h block ≡ add_state h (rounds h (schedule block 64) 80)
unfolding compress
compress_is h block = refl

-- A hash value, word by word.
pub five_words : (h : List ℕ) → length h ≡ 5 →
    get_or h 0 0 ∷ get_or h 1 0 ∷ get_or h 2 0 ∷ get_or h 3 0 ∷ get_or h 4 0 ∷ [] ≡ h
five_words [] e = absurd (omega arith)
five_words (a ∷ []) e = absurd (omega arith)
five_words (a ∷ b ∷ []) e = absurd (omega arith)
five_words (a ∷ b ∷ c ∷ []) e = absurd (omega arith)
five_words (a ∷ b ∷ c ∷ d ∷ []) e = absurd (omega arith)
five_words (a ∷ b ∷ c ∷ d ∷ f ∷ []) e = refl
five_words (a ∷ b ∷ c ∷ d ∷ f ∷ g ∷ h) e = absurd (omega arith)
