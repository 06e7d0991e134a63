-- The tables hold what the standard defines.
use Rattle.std.proofs.Common.{◌≡◌, ℕ, ◌<◌, [], List, length, get_or, map, refl, ap, sym, ◌∙◌, arith}
use Rattle.std.specs.Int.{w32, to_le_bytes}
use Rattle.std.specs.List.{range_with_len}
use Rattle.std.proofs.lemmas.List.{get_or-map}
use Rattle.std.proofs.lemmas.List.FromFn.{get_or-map-range_with_len}
use Rattle.crypto_spec.specs.Aes.{times_bits, times, inverse_from, inverse, sub_byte, power_of_x}
use Rattle.aes_block.specs.declared.tables.TheConstants.{SUB_BYTES, ROUND_CONSTANTS, MIX_ROW_ZERO, MIX_ROW_ONE, MIX_ROW_TWO, MIX_ROW_THREE}
use Rattle.aes_block.specs.MatrixColumns.{first_column, second_column, third_column, fourth_column}

all_substituted : SUB_BYTES ≡ map sub_byte (range_with_len 0 256)
unfolding times_bits times inverse_from inverse sub_byte
all_substituted = refl

pub substituted : (b : ℕ) → b < 256 → get_or SUB_BYTES b 0 ≡ sub_byte b
substituted b h =
    ap (λ (t : List ℕ). get_or t b 0) all_substituted ∙ get_or-map-range_with_len sub_byte 0 256 b b 0 h (omega arith)

all_powers : ROUND_CONSTANTS ≡ map power_of_x (range_with_len 0 10)
unfolding power_of_x
all_powers = refl

pub powers : (n : ℕ) → n < 10 → get_or ROUND_CONSTANTS n 0 ≡ power_of_x n
powers n h = ap (λ (t : List ℕ). get_or t n 0) all_powers ∙ get_or-map-range_with_len power_of_x 0 10 n n 0 h (omega arith)

-- a table of words made from SubBytes of each byte, at one byte
looked_up : (table : List ℕ) (column : ℕ → List ℕ) → length table ≡ 256 →
    map (to_le_bytes w32) table ≡ map column SUB_BYTES →
    (b : ℕ) → b < 256 → to_le_bytes w32 (get_or table b 0) ≡ column (sub_byte b)
looked_up table column long e b h =
    sym (get_or-map (to_le_bytes w32) table b 0 [] (omega arith))
    ∙ ap (λ (t : List (List ℕ)). get_or t b []) e
    ∙ get_or-map column SUB_BYTES b 0 [] h
    ∙ ap column (substituted b h)

all_row_zero : map (to_le_bytes w32) MIX_ROW_ZERO ≡ map first_column SUB_BYTES
unfolding times_bits times
all_row_zero = refl

pub mixed_row_zero : (b : ℕ) → b < 256 → to_le_bytes w32 (get_or MIX_ROW_ZERO b 0) ≡ first_column (sub_byte b)
mixed_row_zero b h = looked_up MIX_ROW_ZERO first_column refl all_row_zero b h

all_row_one : map (to_le_bytes w32) MIX_ROW_ONE ≡ map second_column SUB_BYTES
unfolding times_bits times
all_row_one = refl

pub mixed_row_one : (b : ℕ) → b < 256 → to_le_bytes w32 (get_or MIX_ROW_ONE b 0) ≡ second_column (sub_byte b)
mixed_row_one b h = looked_up MIX_ROW_ONE second_column refl all_row_one b h

all_row_two : map (to_le_bytes w32) MIX_ROW_TWO ≡ map third_column SUB_BYTES
unfolding times_bits times
all_row_two = refl

pub mixed_row_two : (b : ℕ) → b < 256 → to_le_bytes w32 (get_or MIX_ROW_TWO b 0) ≡ third_column (sub_byte b)
mixed_row_two b h = looked_up MIX_ROW_TWO third_column refl all_row_two b h

all_row_three : map (to_le_bytes w32) MIX_ROW_THREE ≡ map fourth_column SUB_BYTES
unfolding times_bits times
all_row_three = refl

pub mixed_row_three : (b : ℕ) → b < 256 → to_le_bytes w32 (get_or MIX_ROW_THREE b 0) ≡ fourth_column (sub_byte b)
mixed_row_three b h = looked_up MIX_ROW_THREE fourth_column refl all_row_three b h
