-- A word rotated left by one bit, and the exclusive or.
use Rattle.std.proofs.Common.{◌≡◌, ℕ, ◌+◌, ◌*◌, ◌/◌, ◌%◌, ◌^◌, ◌<◌, ◌⊎◌, inl, inr, refl, sym, ap, ◌∙◌, arith, bit_and, bit_xor}
use Rattle.std.specs.Int.{w32, rotate_left}
use Rattle.std.specs.Int.Bits.{and_zero_r, xor_step, differ, xor_assoc, xor_zero_l}
use Rattle.std.proofs.lemmas.Nat.{or_disjoint, xor_mod, xor_shr, xor_comm, xor_lt, and_mask}

zero_or_one : (n : ℕ) → n < 2 → (n ≡ 0) ⊎ (n ≡ 1)
zero_or_one n lt = grind arith

even_and_bit : (a b : ℕ) → a % 2 ≡ 0 → b < 2 → bit_and a b ≡ 0
even_and_bit a b even lt = elim (zero_or_one b lt) [
  | inl e ↦ rw e (and_zero_r a)
  | inr e ↦ rw e (and_mask a 1 ∙ even)
]

turned : (x : ℕ) → x < 2 ^ 32 → rotate_left w32 x 1 ≡ x % 2 ^ 31 * 2 + x / 2 ^ 31
turned x lt =
    let even : x * 2 % 2 ^ 32 % 2 ≡ 0 = omega arith in
    let top : x / 2 ^ 31 < 2 = omega arith in
    let same : x * 2 % 2 ^ 32 ≡ x % 2 ^ 31 * 2 = omega arith in
    or_disjoint (x * 2 % 2 ^ 32) (x / 2 ^ 31) (even_and_bit (x * 2 % 2 ^ 32) (x / 2 ^ 31) even top)
    ∙ ap (λ (n : ℕ). n + x / 2 ^ 31) same

differ_is_xor : (a b : ℕ) → a < 2 → b < 2 → bit_xor a b ≡ differ a b
differ_is_xor a b la lb = elim (zero_or_one a la) [
  | inl e ↦ elim (zero_or_one b lb) [ inl f ↦ rw (e, f) refl | inr f ↦ rw (e, f) refl ]
  | inr e ↦ elim (zero_or_one b lb) [ inl f ↦ rw (e, f) refl | inr f ↦ rw (e, f) refl ]
]

half : (a p : ℕ) → p < 2 → (a * 2 + p) / 2 ≡ a
half a p lt = omega arith

rest : (a p : ℕ) → p < 2 → (a * 2 + p) % 2 ≡ p
rest a p lt = omega arith

by_halves : (a b p q : ℕ) → p < 2 → q < 2 → bit_xor a b * 2 + bit_xor p q ≡ bit_xor (a * 2 + p) (b * 2 + q)
by_halves a b p q lp lq = sym (
    xor_step (a * 2 + p) (b * 2 + q)
    ∙ ap (λ (n : ℕ). bit_xor n ((b * 2 + q) / 2) * 2 + differ ((a * 2 + p) % 2) ((b * 2 + q) % 2)) (half a p lp)
    ∙ ap (λ (n : ℕ). bit_xor a n * 2 + differ ((a * 2 + p) % 2) ((b * 2 + q) % 2)) (half b q lq)
    ∙ ap (λ (n : ℕ). bit_xor a b * 2 + differ n ((b * 2 + q) % 2)) (rest a p lp)
    ∙ ap (λ (n : ℕ). bit_xor a b * 2 + differ p n) (rest b q lq)
    ∙ ap (λ (n : ℕ). bit_xor a b * 2 + n) (sym (differ_is_xor p q lp lq)))

turn_xor : (x y : ℕ) → x < 2 ^ 32 → y < 2 ^ 32 →
    rotate_left w32 (bit_xor x y) 1 ≡ bit_xor (rotate_left w32 x 1) (rotate_left w32 y 1)
turn_xor x y lx ly =
    let l : bit_xor x y < 2 ^ 32 = xor_lt 32 x y lx ly in
    let a : ℕ = x % 2 ^ 31 in
    let b : ℕ = y % 2 ^ 31 in
    let p : ℕ = x / 2 ^ 31 in
    let q : ℕ = y / 2 ^ 31 in
    let lp : p < 2 = omega arith in
    let lq : q < 2 = omega arith in
    turned (bit_xor x y) l
    ∙ ap (λ (n : ℕ). n * 2 + bit_xor x y / 2 ^ 31) (xor_mod x y 31)
    ∙ ap (λ (n : ℕ). bit_xor a b * 2 + n) (xor_shr x y 31)
    ∙ by_halves a b p q lp lq
    ∙ ap (λ (n : ℕ). bit_xor n (b * 2 + q)) (sym (turned x lx))
    ∙ ap (λ (n : ℕ). bit_xor (rotate_left w32 x 1) n) (sym (turned y ly))

pub turn_fits : (x : ℕ) → x < 2 ^ 32 → rotate_left w32 x 1 < 2 ^ 32
turn_fits x lt = rw (turned x lt) (omega arith)

put_first : (m p q s : ℕ) → bit_xor (bit_xor (bit_xor (bit_xor 0 p) q) s) m ≡ bit_xor (bit_xor (bit_xor m p) q) s
put_first m p q s =
    xor_comm (bit_xor (bit_xor (bit_xor 0 p) q) s) m
    ∙ ap (λ (n : ℕ). bit_xor m (bit_xor (bit_xor n q) s)) (xor_zero_l p)
    ∙ sym (xor_assoc m (bit_xor p q) s)
    ∙ ap (λ (n : ℕ). bit_xor n s) (sym (xor_assoc m p q))

-- A word made without the first of its four, and then given that one's share.
pub share_later : (m p q s : ℕ) → m < 2 ^ 32 → p < 2 ^ 32 → q < 2 ^ 32 → s < 2 ^ 32 →
    bit_xor (rotate_left w32 (bit_xor (bit_xor (bit_xor 0 p) q) s) 1) (rotate_left w32 m 1)
    ≡ rotate_left w32 (bit_xor (bit_xor (bit_xor m p) q) s) 1
share_later m p q s lm lp lq ls =
    let l : bit_xor (bit_xor (bit_xor 0 p) q) s < 2 ^ 32 =
    xor_lt 32 _ s (xor_lt 32 _ q (rw (xor_zero_l p) lp) lq) ls in
    sym (turn_xor (bit_xor (bit_xor (bit_xor 0 p) q) s) m l lm) ∙ ap (λ (n : ℕ). rotate_left w32 n 1) (put_first m p q s)
