-- MixColumns by one doubling for each byte.
use Rattle.std.proofs.Common.{◌≡◌, ℕ, ◌+◌, ◌%◌, ◌<◌, true, List, get_or, map, refl, ap, sym, ◌∙◌, lit<, arith}
use Rattle.std.specs.Prelude.{nat_lt}
use Rattle.std.specs.Int.{bit_at}
use Rattle.std.specs.Int.Bits.{bit_xor, xor_assoc}
use Rattle.std.specs.List.{range_with_len}
use Rattle.std.proofs.lemmas.Bool.Decides.{nat_tests}
use Rattle.std.proofs.lemmas.Nat.{xor_comm, xor_of_8}
use Rattle.std.proofs.lemmas.Nat.Bits.{bit_at_xor, same_from_bits_below}
use Rattle.crypto_spec.specs.Aes.{times_bits, times, inverse_from, inverse, sub_byte, mix_columns}
use Rattle.aes_lanes.specs.Places.{row_below, two_rows_below}
use Rattle.aes_lanes.proofs.Bytes.{doubled_bit}
use Rattle.aes_lanes.proofs.Eight.{below_eight, below_sixteen, at_each_byte}

below_256 : (n : ℕ) → nat_lt n 256 ≡ true → n < 256
below_256 n e = grind (arith, nat_tests)

substituted_everywhere : map (λ v. nat_lt (sub_byte v) 256) (range_with_len 0 256) ≡ map (λ _. true) (range_with_len 0 256)
unfolding times_bits times inverse_from inverse sub_byte
substituted_everywhere = refl

pub sub_byte-lt : (v : ℕ) → v < 256 → sub_byte v < 256
sub_byte-lt v h = below_256 (sub_byte v) (at_each_byte (λ v. nat_lt (sub_byte v) 256) (λ _. true) substituted_everywhere v h)

twice_everywhere : map (λ v. nat_lt (times 2 v) 256) (range_with_len 0 256) ≡ map (λ _. true) (range_with_len 0 256)
unfolding times_bits times
twice_everywhere = refl

twice-lt : (v : ℕ) → v < 256 → times 2 v < 256
twice-lt v h = below_256 (times 2 v) (at_each_byte (λ v. nat_lt (times 2 v) 256) (λ _. true) twice_everywhere v h)

thrice_everywhere : map (times 3) (range_with_len 0 256) ≡ map (λ v. bit_xor (times 2 v) v) (range_with_len 0 256)
unfolding times_bits times
thrice_everywhere = refl

thrice : (v : ℕ) → v < 256 → times 3 v ≡ bit_xor (times 2 v) v
thrice v h = at_each_byte (times 3) (λ v. bit_xor (times 2 v) v) thrice_everywhere v h

-- bit p of a doubled sum, where it is bit q of the byte
moved_bit : (a b p q : ℕ) → a < 256 → b < 256 → bit_at (times 2 (bit_xor a b)) p ≡ bit_at (bit_xor a b) q →
    bit_at (times 2 a) p ≡ bit_at a q → bit_at (times 2 b) p ≡ bit_at b q →
    bit_at (times 2 (bit_xor a b)) p ≡ bit_at (bit_xor (times 2 a) (times 2 b)) p
moved_bit a b p q h l s m n =
    s ∙ bit_at_xor a b q
    ∙ sym (ap (λ (x : ℕ). (x + bit_at (times 2 b) p) % 2) m ∙ ap (λ (y : ℕ). (bit_at a q + y) % 2) n)
    ∙ sym (bit_at_xor (times 2 a) (times 2 b) p)

sums_of_bits : (s m n x y z u v w a b : ℕ) → s ≡ (x + u) % 2 → x ≡ (y + z) % 2 → u ≡ (v + w) % 2 →
    m ≡ (y + v) % 2 → n ≡ (z + w) % 2 → s ≡ (m + n) % 2
sums_of_bits s m n x y z u v w a b p q e f g = omega arith

-- the same, where it is the sum of bits q and 7
reduced_bit : (a b p q : ℕ) → bit_at (times 2 (bit_xor a b)) p ≡ (bit_at (bit_xor a b) q + bit_at (bit_xor a b) 7) % 2 →
    bit_at (times 2 a) p ≡ (bit_at a q + bit_at a 7) % 2 → bit_at (times 2 b) p ≡ (bit_at b q + bit_at b 7) % 2 →
    bit_at (times 2 (bit_xor a b)) p ≡ bit_at (bit_xor (times 2 a) (times 2 b)) p
reduced_bit a b p q s m n =
    sums_of_bits _ _ _ _ _ _ _ _ _ 0 0 s (bit_at_xor a b q) (bit_at_xor a b 7) m n ∙ sym (bit_at_xor (times 2 a) (times 2 b) p)

twice-xor : (a b : ℕ) → a < 256 → b < 256 → times 2 (bit_xor a b) ≡ bit_xor (times 2 a) (times 2 b)
twice-xor a b h l =
    let sum : bit_xor a b < 256 = xor_of_8 a b h l in
    let bit = λ (v p : ℕ) (s : v < 256). sym (doubled_bit v p s) in
    same_from_bits_below 8 _ _ (twice-lt (bit_xor a b) sum) (xor_of_8 _ _ (twice-lt a h) (twice-lt b l))
    (below_eight (λ p. bit_at (times 2 (bit_xor a b)) p ≡ bit_at (bit_xor (times 2 a) (times 2 b)) p)
    (moved_bit a b 0 7 h l (bit (bit_xor a b) 0 sum) (bit a 0 h) (bit b 0 l))
    (reduced_bit a b 1 0 (bit (bit_xor a b) 1 sum) (bit a 1 h) (bit b 1 l))
    (moved_bit a b 2 1 h l (bit (bit_xor a b) 2 sum) (bit a 2 h) (bit b 2 l))
    (reduced_bit a b 3 2 (bit (bit_xor a b) 3 sum) (bit a 3 h) (bit b 3 l))
    (reduced_bit a b 4 3 (bit (bit_xor a b) 4 sum) (bit a 4 h) (bit b 4 l))
    (moved_bit a b 5 4 h l (bit (bit_xor a b) 5 sum) (bit a 5 h) (bit b 5 l))
    (moved_bit a b 6 5 h l (bit (bit_xor a b) 6 sum) (bit a 6 h) (bit b 6 l))
    (moved_bit a b 7 6 h l (bit (bit_xor a b) 7 sum) (bit a 7 h) (bit b 7 l)))

-- what the code makes of a byte and the three below it in its column
abbrev pub mixed_byte : ℕ → ℕ → ℕ → ℕ → ℕ
mixed_byte x y z w = bit_xor (bit_xor (times 2 (bit_xor x y)) y) (bit_xor z w)

pub mixed_byte-lt : (x y z w : ℕ) → x < 256 → y < 256 → z < 256 → w < 256 → mixed_byte x y z w < 256
mixed_byte-lt x y z w h l m n =
    xor_of_8 _ _ (xor_of_8 _ y (twice-lt _ (xor_of_8 x y h l)) l) (xor_of_8 z w m n)

expanded_byte : (x y z w : ℕ) → x < 256 → y < 256 → mixed_byte x y z w ≡ bit_xor (times 2 x) (bit_xor (times 3 y) (bit_xor z w))
expanded_byte x y z w h l =
    ap (λ (n : ℕ). bit_xor (bit_xor n y) (bit_xor z w)) (twice-xor x y h l)
    ∙ ap (λ (n : ℕ). bit_xor n (bit_xor z w)) (xor_assoc (times 2 x) (times 2 y) y ∙ ap (bit_xor (times 2 x)) (sym (thrice y l)))
    ∙ xor_assoc (times 2 x) (times 3 y) (bit_xor z w)

-- the four rows of the matrix
row_zero : (a b c d : ℕ) → a < 256 → b < 256 → mixed_byte a b c d ≡ bit_xor (bit_xor (bit_xor (times 2 a) (times 3 b)) c) d
row_zero a b c d h l = expanded_byte a b c d h l ∙ sym (simp xor_assoc)

row_one : (a b c d : ℕ) → b < 256 → c < 256 → mixed_byte b c d a ≡ bit_xor (bit_xor (bit_xor a (times 2 b)) (times 3 c)) d
row_one a b c d h l =
    expanded_byte b c d a h l
    ∙ ap (bit_xor (times 2 b)) (sym (xor_assoc (times 3 c) d a)) ∙ sym (xor_assoc (times 2 b) (bit_xor (times 3 c) d) a)
    ∙ xor_comm (bit_xor (times 2 b) (bit_xor (times 3 c) d)) a
    ∙ sym (xor_assoc a (times 2 b) (bit_xor (times 3 c) d)) ∙ sym (xor_assoc (bit_xor a (times 2 b)) (times 3 c) d)

row_two : (a b c d : ℕ) → c < 256 → d < 256 → mixed_byte c d a b ≡ bit_xor (bit_xor (bit_xor a b) (times 2 c)) (times 3 d)
row_two a b c d h l =
    expanded_byte c d a b h l
    ∙ sym (xor_assoc (times 2 c) (times 3 d) (bit_xor a b)) ∙ xor_comm (bit_xor (times 2 c) (times 3 d)) (bit_xor a b)
    ∙ sym (xor_assoc (bit_xor a b) (times 2 c) (times 3 d))

row_three : (a b c d : ℕ) → d < 256 → a < 256 → mixed_byte d a b c ≡ bit_xor (bit_xor (bit_xor (times 3 a) b) c) (times 2 d)
row_three a b c d h l =
    expanded_byte d a b c h l ∙ xor_comm (times 2 d) (bit_xor (times 3 a) (bit_xor b c))
    ∙ ap (λ (n : ℕ). bit_xor n (times 2 d)) (sym (xor_assoc (times 3 a) b c))

-- MixColumns at each place of a state
pub mixed_at : (s : List ℕ) → ((i : ℕ) → i < 16 → get_or s i 0 < 256) → (i : ℕ) → i < 16 →
    mixed_byte (get_or s i 0) (get_or s (row_below i) 0) (get_or s (two_rows_below i) 0)
    (get_or s (row_below (two_rows_below i)) 0)
    ≡ get_or (mix_columns s) i 0
mixed_at s small =
    let at = λ (i : ℕ). get_or s i 0 in
    below_sixteen
    (λ i. mixed_byte (get_or s i 0) (get_or s (row_below i) 0) (get_or s (two_rows_below i) 0)
    (get_or s (row_below (two_rows_below i)) 0)
    ≡ get_or (mix_columns s) i 0)
    (row_zero (at 0) (at 1) (at 2) (at 3) (small 0 (lit< tt)) (small 1 (lit< tt)))
    (row_one (at 0) (at 1) (at 2) (at 3) (small 1 (lit< tt)) (small 2 (lit< tt)))
    (row_two (at 0) (at 1) (at 2) (at 3) (small 2 (lit< tt)) (small 3 (lit< tt)))
    (row_three (at 0) (at 1) (at 2) (at 3) (small 3 (lit< tt)) (small 0 (lit< tt)))
    (row_zero (at 4) (at 5) (at 6) (at 7) (small 4 (lit< tt)) (small 5 (lit< tt)))
    (row_one (at 4) (at 5) (at 6) (at 7) (small 5 (lit< tt)) (small 6 (lit< tt)))
    (row_two (at 4) (at 5) (at 6) (at 7) (small 6 (lit< tt)) (small 7 (lit< tt)))
    (row_three (at 4) (at 5) (at 6) (at 7) (small 7 (lit< tt)) (small 4 (lit< tt)))
    (row_zero (at 8) (at 9) (at 10) (at 11) (small 8 (lit< tt)) (small 9 (lit< tt)))
    (row_one (at 8) (at 9) (at 10) (at 11) (small 9 (lit< tt)) (small 10 (lit< tt)))
    (row_two (at 8) (at 9) (at 10) (at 11) (small 10 (lit< tt)) (small 11 (lit< tt)))
    (row_three (at 8) (at 9) (at 10) (at 11) (small 11 (lit< tt)) (small 8 (lit< tt)))
    (row_zero (at 12) (at 13) (at 14) (at 15) (small 12 (lit< tt)) (small 13 (lit< tt)))
    (row_one (at 12) (at 13) (at 14) (at 15) (small 13 (lit< tt)) (small 14 (lit< tt)))
    (row_two (at 12) (at 13) (at 14) (at 15) (small 14 (lit< tt)) (small 15 (lit< tt)))
    (row_three (at 12) (at 13) (at 14) (at 15) (small 15 (lit< tt)) (small 12 (lit< tt)))
