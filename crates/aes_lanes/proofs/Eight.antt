-- Facts of each number below eight, and of each byte.
use Rattle.std.proofs.Common.{◌≡◌, ℕ, zero, suc, ◌<◌, List, get_or, map, ap, sym, ◌∙◌, arith}
use Rattle.std.specs.List.{range_with_len}
use Rattle.std.proofs.lemmas.List.FromFn.{get_or-map-range_with_len}

pub below_eight : (P : ℕ → Type 0) → P 0 → P 1 → P 2 → P 3 → P 4 → P 5 → P 6 → P 7 → (k : ℕ) → k < 8 → P k
below_eight P a b c d e f g h zero l = a
below_eight P a b c d e f g h (suc zero) l = b
below_eight P a b c d e f g h (suc (suc zero)) l = c
below_eight P a b c d e f g h (suc (suc (suc zero))) l = d
below_eight P a b c d e f g h (suc (suc (suc (suc zero)))) l = e
below_eight P a b c d e f g h (suc (suc (suc (suc (suc zero))))) l = f
below_eight P a b c d e f g h (suc (suc (suc (suc (suc (suc zero)))))) l = g
below_eight P a b c d e f g h (suc (suc (suc (suc (suc (suc (suc zero))))))) l = h
below_eight P a b c d e f g h (suc (suc (suc (suc (suc (suc (suc (suc n)))))))) l = absurd (omega arith)

pub below_sixteen : (P : ℕ → Type 0) → P 0 → P 1 → P 2 → P 3 → P 4 → P 5 → P 6 → P 7 → P 8 → P 9 → P 10 → P 11 → P 12 → P 13
    → P 14 → P 15 →
    (k : ℕ) → k < 16 → P k
below_sixteen P a b c d e f g h a' b' c' d' e' f' g' h' zero l = a
below_sixteen P a b c d e f g h a' b' c' d' e' f' g' h' (suc zero) l = b
below_sixteen P a b c d e f g h a' b' c' d' e' f' g' h' (suc (suc zero)) l = c
below_sixteen P a b c d e f g h a' b' c' d' e' f' g' h' (suc (suc (suc zero))) l = d
below_sixteen P a b c d e f g h a' b' c' d' e' f' g' h' (suc (suc (suc (suc zero)))) l = e
below_sixteen P a b c d e f g h a' b' c' d' e' f' g' h' (suc (suc (suc (suc (suc zero))))) l = f
below_sixteen P a b c d e f g h a' b' c' d' e' f' g' h' (suc (suc (suc (suc (suc (suc zero)))))) l = g
below_sixteen P a b c d e f g h a' b' c' d' e' f' g' h' (suc (suc (suc (suc (suc (suc (suc zero))))))) l = h
below_sixteen P a b c d e f g h a' b' c' d' e' f' g' h' (suc (suc (suc (suc (suc (suc (suc (suc n)))))))) l =
    below_eight (λ j. P (suc (suc (suc (suc (suc (suc (suc (suc j))))))))) a' b' c' d' e' f' g' h' n (omega arith)

pub below_ten : (P : ℕ → Type 0) → P 0 → P 1 → P 2 → P 3 → P 4 → P 5 → P 6 → P 7 → P 8 → P 9 → (k : ℕ) → k < 10 → P k
below_ten P a b c d e f g h i j zero l = a
below_ten P a b c d e f g h i j (suc zero) l = b
below_ten P a b c d e f g h i j (suc (suc n)) l = below_eight (λ m. P (suc (suc m))) c d e f g h i j n (omega arith)

pub below_two : (P : ℕ → Type 0) → P 0 → P 1 → (k : ℕ) → k < 2 → P k
below_two P a b zero l = a
below_two P a b (suc zero) l = b
below_two P a b (suc (suc n)) l = absurd (omega arith)

-- two functions that agree on the list of all bytes agree at a byte
pub at_each_byte : {A : Type 0} (f g : ℕ → A) → map f (range_with_len 0 256) ≡ map g (range_with_len 0 256) →
    (v : ℕ) → v < 256 → f v ≡ g v
at_each_byte f g e v h =
    sym (get_or-map-range_with_len f 0 256 v v (f v) h (omega arith))
    ∙ ap (λ (t : List _). get_or t v (f v)) e
    ∙ get_or-map-range_with_len g 0 256 v v (f v) h (omega arith)
