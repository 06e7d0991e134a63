-- What a round does to the bytes of a state.
use Rattle.std.proofs.Common.{◌≡◌, ℕ, ◌<◌, List, length, get_or, subst, sym, ◌∙◌, arith, Fits}
use Rattle.std.specs.Prelude.{bit_xor}
use Rattle.std.specs.Simd.Lanes.{Each1}
use Rattle.std.proofs.lemmas.List.{get_or-map}
use Rattle.std.proofs.lemmas.List.FromFn.{get_or-map-range_with_len}
use Rattle.std.proofs.lemmas.Nat.{xor_of_8}
use Rattle.std.proofs.lemmas.Simd.{length-zip2, get_or-zip2, Each1-get_or}
use mir.Syntax.{w8}
use Rattle.crypto_spec.specs.Aes.{add, sub_byte, sub_bytes, shift_rows, mix_columns}
use Rattle.aes_lanes.specs.Places.{moved_to, row_below, two_rows_below}
use Rattle.aes_lanes.proofs.MixColumns.{sub_byte-lt, mixed_byte-lt, mixed_at}

pub moved_to-lt : (i : ℕ) → i < 16 → moved_to i < 16
moved_to-lt i h = omega arith

pub row_below-lt : (i : ℕ) → i < 16 → row_below i < 16
row_below-lt i h = omega arith

pub two_rows_below-lt : (i : ℕ) → i < 16 → two_rows_below i < 16
two_rows_below-lt i h = omega arith

-- the state after SubBytes and ShiftRows
abbrev pub moved : List ℕ → List ℕ
moved s = shift_rows (sub_bytes s)

pub moved_at : (s : List ℕ) (i : ℕ) → length s ≡ 16 → i < 16 → sub_byte (get_or s (moved_to i) 0) ≡ get_or (moved s) i 0
moved_at s i long h =
    let inside : moved_to i < length s = omega (arith, moved_to-lt i h) in
    sym (get_or-map-range_with_len (λ k. get_or (sub_bytes s) (moved_to k) 0) 0 16 i i 0 h (omega arith)
    ∙ get_or-map sub_byte s (moved_to i) 0 0 inside)

pub moved-lt : (s : List ℕ) → length s ≡ 16 → ((i : ℕ) → i < 16 → get_or s i 0 < 256) → (i : ℕ) → i < 16
    → get_or (moved s) i 0 < 256
moved-lt s long small i h =
    subst (λ (n : ℕ). n < 256) (moved_at s i long h) (sub_byte-lt _ (small (moved_to i) (moved_to-lt i h)))

-- and after MixColumns
pub mixed-lt : (s : List ℕ) → ((i : ℕ) → i < 16 → get_or s i 0 < 256) → (i : ℕ) → i < 16 → get_or (mix_columns s) i 0 < 256
mixed-lt s small i h =
    let two = two_rows_below i in
    let below_two : row_below two < 16 = row_below-lt two (two_rows_below-lt i h) in
    subst (λ (n : ℕ). n < 256) (mixed_at s small i h)
    (mixed_byte-lt _ _ _ _ (small i h) (small (row_below i) (row_below-lt i h)) (small two (two_rows_below-lt i h))
    (small (row_below two) below_two))

-- the sum with a round key
pub length-add : (s key : List ℕ) → length s ≡ 16 → length key ≡ 16 → length (add s key) ≡ 16
length-add s key long all = length-zip2 bit_xor s key (long ∙ sym all) ∙ long

pub added_at : (s key : List ℕ) (i : ℕ) → length s ≡ 16 → length key ≡ 16 → i < 16 →
    bit_xor (get_or s i 0) (get_or key i 0) ≡ get_or (add s key) i 0
added_at s key i long all h = sym (get_or-zip2 bit_xor s key i 0 0 0 (omega arith) (omega arith))

pub lane-lt : (key : List ℕ) (i : ℕ) → length key ≡ 16 → Each1 (Fits w8) key → i < 16 → get_or key i 0 < 256
lane-lt key i all fits h = (Each1-get_or (Fits w8) key i 0 (omega arith) fits).fits

pub added-lt : (s key : List ℕ) (i : ℕ) → length s ≡ 16 → length key ≡ 16 → i < 16 → get_or s i 0 < 256 → get_or key i 0 < 256 →
    get_or (add s key) i 0 < 256
added-lt s key i long all h p q = subst (λ (n : ℕ). n < 256) (added_at s key i long all h) (xor_of_8 _ _ p q)
