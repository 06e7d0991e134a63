-- States and round keys with the constant of SubBytes.
use Rattle.std.proofs.Common.{◌≡◌, ℕ, ◌<◌, List, length, get_or, refl, ap, sym, subst, ◌∙◌, lit<, arith}
use Rattle.std.specs.Int.Bits.{bit_xor, xor_assoc}
use Rattle.std.proofs.lemmas.List.{get_or-map, length-map}
use Rattle.std.proofs.lemmas.Grind.{same_number_lists}
use Rattle.std.proofs.lemmas.Nat.{xor_comm, xor_of_8}
use Rattle.std.proofs.lemmas.Simd.{get_or-zip2}
use Rattle.crypto_spec.specs.Aes.{add, mix_columns, times}
use Rattle.aes_lanes.specs.Places.{row_below, two_rows_below}
use Rattle.aes_lanes.specs.Sliced.{masked}
use Rattle.aes_lanes.proofs.MixColumns.{mixed_byte, mixed_at}
use Rattle.aes_lanes.proofs.States.{length-add, row_below-lt, two_rows_below-lt}

abbrev mask : ℕ → ℕ
mask v = bit_xor v 0x63

pub length-masked : (s : List ℕ) → length s ≡ 16 → length (masked s) ≡ 16
length-masked s long = length-map s mask ∙ long

pub whole_key : (k : List ℕ) → length (masked k) ≡ 16 → length k ≡ 16
whole_key k long = sym (length-map k mask) ∙ long

masked_is : (s : List ℕ) (i : ℕ) → i < length s → mask (get_or s i 0) ≡ get_or (masked s) i 0
masked_is s i h = sym (get_or-map mask s i 0 0 h)

pub masked_at : (s : List ℕ) (i : ℕ) {v : ℕ} → i < length s → v ≡ get_or s i 0 → bit_xor v 0x63 ≡ get_or (masked s) i 0
masked_at s i h e = ap mask e ∙ masked_is s i h

pub masked-lt : (s : List ℕ) (i : ℕ) → length s ≡ 16 → ((i : ℕ) → i < 16 → get_or s i 0 < 256) → i < 16
    → get_or (masked s) i 0 < 256
masked-lt s i long small h =
    subst (λ (n : ℕ). n < 256) (masked_is s i (omega arith)) (xor_of_8 _ 0x63 (small i h) (lit< tt))

-- the constant is gone where it comes twice
gone : (c a b : ℕ) → bit_xor c c ≡ 0 → bit_xor (bit_xor a c) (bit_xor b c) ≡ bit_xor a b
gone c a b none =
    ap (λ (n : ℕ). bit_xor (bit_xor a c) n) (xor_comm b c)
    ∙ xor_assoc a c (bit_xor c b)
    ∙ ap (bit_xor a) (sym (xor_assoc c c b) ∙ ap (λ (n : ℕ). bit_xor n b) none)

gone_here : (a b : ℕ) → bit_xor (mask a) (mask b) ≡ bit_xor a b
gone_here a b = gone 0x63 a b refl

pub add_masked : (s k : List ℕ) → length s ≡ 16 → length k ≡ 16 → add (masked s) (masked k) ≡ add s k
add_masked s k long all =
    let s_long = length-masked s long in
    let k_long = length-masked k all in
    same_number_lists _ _ (length-add (masked s) (masked k) s_long k_long ∙ sym (length-add s k long all))
    (λ i h. let within : i < 16 = omega (arith, h, length-add (masked s) (masked k) s_long k_long) in
    get_or-zip2 bit_xor (masked s) (masked k) i 0 0 0 (omega arith) (omega arith)
    ∙ ap (λ (n : ℕ). bit_xor n (get_or (masked k) i 0)) (sym (masked_is s i (omega arith)))
    ∙ ap (bit_xor (mask (get_or s i 0))) (sym (masked_is k i (omega arith)))
    ∙ gone_here (get_or s i 0) (get_or k i 0)
    ∙ sym (get_or-zip2 bit_xor s k i 0 0 0 (omega arith) (omega arith)))

-- and MixColumns keeps it
kept_byte : (x y z w : ℕ) → mixed_byte (mask x) (mask y) (mask z) (mask w) ≡ mask (mixed_byte x y z w)
kept_byte x y z w =
    let twice = times 2 (bit_xor x y) in
    let rest = bit_xor z w in
    ap (λ (n : ℕ). bit_xor (bit_xor (times 2 n) (mask y)) (bit_xor (mask z) (mask w))) (gone_here x y)
    ∙ ap (λ (n : ℕ). bit_xor (bit_xor twice (mask y)) n) (gone_here z w)
    ∙ ap (λ (n : ℕ). bit_xor n rest) (sym (xor_assoc twice y 0x63))
    ∙ xor_assoc (bit_xor twice y) 0x63 rest
    ∙ ap (bit_xor (bit_xor twice y)) (xor_comm 0x63 rest)
    ∙ sym (xor_assoc (bit_xor twice y) rest 0x63)

pub mixed_masked : (s : List ℕ) → length s ≡ 16 → ((i : ℕ) → i < 16 → get_or s i 0 < 256)
    → mix_columns (masked s) ≡ masked (mix_columns s)
mixed_masked s long small =
    let at = λ (i : ℕ) (h : i < 16). sym (masked_is s i (omega (arith, h, long))) in
    same_number_lists (mix_columns (masked s)) (masked (mix_columns s)) refl
    (λ i h.
    let b = row_below i in
    let t = two_rows_below i in
    let in_b = row_below-lt i h in
    let in_t = two_rows_below-lt i h in
    let in_w = row_below-lt t in_t in
    let g = λ (j : ℕ). get_or s j 0 in
    sym (mixed_at (masked s) (λ j l. masked-lt s j long small l) i h)
    ∙ ap (λ (n : ℕ). mixed_byte n (get_or (masked s) b 0) (get_or (masked s) t 0) (get_or (masked s) (row_below t) 0)) (at i h)
    ∙ ap (λ (n : ℕ). mixed_byte (mask (g i)) n (get_or (masked s) t 0) (get_or (masked s) (row_below t) 0)) (at b in_b)
    ∙ ap (λ (n : ℕ). mixed_byte (mask (g i)) (mask (g b)) n (get_or (masked s) (row_below t) 0)) (at t in_t)
    ∙ ap (λ (n : ℕ). mixed_byte (mask (g i)) (mask (g b)) (mask (g t)) n) (at (row_below t) in_w)
    ∙ kept_byte (g i) (g b) (g t) (g (row_below t))
    ∙ ap mask (mixed_at s small i h)
    ∙ masked_is (mix_columns s) i h)
