-- AES-128 (FIPS 197). Bytes are numbers below 256. A block, the state and a round key are lists of 16
-- bytes; byte r + 4c is in row r and column c of the state (3.4). Section numbers are the standard's.
use Rattle.std.specs.Prelude.{ℕ, zero, suc, ◌+◌, ◌-◌, ◌*◌, ◌/◌, ◌%◌, ◌^◌, ◌==◌, nat_lt, List, [], ◌∷◌, ◌++◌, map, sum_by, take, drop, slice_index, bit_xor, if◌then◌else◌}
use Rattle.std.specs.Int.{bit_at}
use Rattle.std.specs.List.{range_with_len, flat_map}
use Rattle.std.specs.Simd.Lanes.{zip2}

-- The sum of two words, byte by byte in GF(2^8) (4.1)
abbrev pub add : List ℕ → List ℕ → List ℕ
add = zip2 bit_xor

-- x times b, modulo x^8 + x^4 + x^3 + x + 1 (4.2)
abbrev pub times_x : ℕ → ℕ
times_x b = if nat_lt b 128 then 2 * b else bit_xor (2 * b) 0x11b

-- a times b, where a has n bits: the sum of x^i times b over the bits i that are set in a (4.2)
unfoldable pub times_bits : ℕ → ℕ → ℕ → ℕ
times_bits zero a b = 0
times_bits (suc n) a b = bit_xor (if a % 2 == 1 then b else 0) (times_bits n (a / 2) (times_x b))

-- a times b (4.2)
unfoldable pub times : ℕ → ℕ → ℕ
times a b = times_bits 8 a b

-- The first of n bytes from b on whose product with a is 1, or 0 where there is none
unfoldable pub inverse_from : ℕ → ℕ → ℕ → ℕ
inverse_from zero b a = 0
inverse_from (suc n) b a = if times a b == 1 then b else inverse_from n (b + 1) a

-- The multiplicative inverse, and 0 for 0 (5.1.1)
unfoldable pub inverse : ℕ → ℕ
inverse a = inverse_from 256 0 a

-- Bit i of the affine map of b, with the constant 63 (5.1.1)
abbrev pub affine_bit : ℕ → ℕ → ℕ
affine_bit b i = (bit_at b i + bit_at b ((i + 4) % 8) + bit_at b ((i + 5) % 8) + bit_at b ((i + 6) % 8)
    + bit_at b ((i + 7) % 8) + bit_at 0x63 i) % 2

-- SubBytes of one byte: the affine map of its inverse (5.1.1)
unfoldable pub sub_byte : ℕ → ℕ
sub_byte a = sum_by (λ i. affine_bit (inverse a) i * 2 ^ i) (range_with_len 0 8)

-- SubBytes (5.1.1), and SubWord (5.2)
abbrev pub sub_bytes : List ℕ → List ℕ
sub_bytes = map sub_byte

-- ShiftRows: row r moves left by r columns (5.1.2)
abbrev pub shift_rows : List ℕ → List ℕ
shift_rows s = map (λ i. slice_index s (i % 4 + 4 * ((i / 4 + i % 4) % 4))) (range_with_len 0 16)

-- One column times the circulant matrix with the first row 02 03 01 01 (5.1.3)
abbrev pub mix_column : ℕ → ℕ → ℕ → ℕ → List ℕ
mix_column a b c d =
    bit_xor (bit_xor (bit_xor (times 2 a) (times 3 b)) c) d
    ∷ bit_xor (bit_xor (bit_xor a (times 2 b)) (times 3 c)) d
    ∷ bit_xor (bit_xor (bit_xor a b) (times 2 c)) (times 3 d)
    ∷ bit_xor (bit_xor (bit_xor (times 3 a) b) c) (times 2 d) ∷ []

-- MixColumns (5.1.3)
abbrev pub mix_columns : List ℕ → List ℕ
mix_columns s = flat_map (λ c. mix_column (slice_index s (4 * c)) (slice_index s (4 * c + 1))
    (slice_index s (4 * c + 2)) (slice_index s (4 * c + 3))) (range_with_len 0 4)

-- Word i of a key schedule, whose words of 4 bytes lie one after another (5.2)
abbrev pub word : List ℕ → ℕ → List ℕ
word keys i = take 4 (drop (4 * i) keys)

-- RotWord (5.2)
abbrev pub rot_word : List ℕ → List ℕ
rot_word w = drop 1 w ++ take 1 w

-- x^n, a round constant's only byte that is not 0 (5.2)
unfoldable pub power_of_x : ℕ → ℕ
power_of_x zero = 1
power_of_x (suc n) = times_x (power_of_x n)

-- What word i adds to word i - 4, where w is word i - 1 (5.2)
unfoldable pub word_change : ℕ → List ℕ → List ℕ
word_change i w =
    if i % 4 == 0 then add (sub_bytes (rot_word w)) (power_of_x (i / 4 - 1) ∷ 0 ∷ 0 ∷ 0 ∷ []) else w

-- The key schedule as far as its first 4 + n words; the key is the first 4 (5.2)
unfoldable pub expanded : List ℕ → ℕ → List ℕ
expanded key zero = key
expanded key (suc n) =
    expanded key n ++ add (word (expanded key n) n) (word_change (n + 4) (word (expanded key n) (n + 3)))

-- The round key of round r (5.1.4)
abbrev pub round_key : List ℕ → ℕ → List ℕ
round_key keys r = take 16 (drop (16 * r) keys)

-- The state after the first round key and n rounds with MixColumns (5.1)
unfoldable pub state_after : List ℕ → List ℕ → ℕ → List ℕ
state_after keys block zero = add block (round_key keys 0)
state_after keys block (suc n) =
    add (mix_columns (shift_rows (sub_bytes (state_after keys block n)))) (round_key keys (suc n))

-- The cipher: nine such rounds, and a tenth without MixColumns (5.1)
unfoldable pub aes : List ℕ → List ℕ → List ℕ
aes key block =
    let keys = expanded key 40 in
    add (shift_rows (sub_bytes (state_after keys block 9))) (round_key keys 10)
