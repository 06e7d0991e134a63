-- Facts of bytes, each shown for all 256.
use Rattle.std.proofs.Common.{◌≡◌, ℕ, ◌+◌, ◌%◌, ◌<◌, List, [], ◌∷◌, get_or, map, refl, ap}
use Rattle.std.specs.Int.{bit_at}
use Rattle.std.specs.List.{range_with_len}
use Rattle.crypto_spec.specs.Aes.{times_bits, times}
use Rattle.aes_lanes.proofs.Eight.{at_each_byte}

-- the bits of a byte, the lowest first
abbrev pub bits_of : ℕ → List ℕ
bits_of v = bit_at v 0 ∷ bit_at v 1 ∷ bit_at v 2 ∷ bit_at v 3 ∷ bit_at v 4 ∷ bit_at v 5 ∷ bit_at v 6 ∷ bit_at v 7 ∷ []

-- and of twice the byte
abbrev pub doubled_bits : ℕ → List ℕ
doubled_bits v =
    bit_at v 7 ∷ (bit_at v 0 + bit_at v 7) % 2 ∷ bit_at v 1 ∷ (bit_at v 2 + bit_at v 7) % 2
    ∷ (bit_at v 3 + bit_at v 7) % 2 ∷ bit_at v 4 ∷ bit_at v 5 ∷ bit_at v 6 ∷ []

doubled_everywhere : map doubled_bits (range_with_len 0 256) ≡ map (λ v. bits_of (times 2 v)) (range_with_len 0 256)
unfolding times_bits times
doubled_everywhere = refl

pub doubled_bit : (v p : ℕ) → v < 256 → get_or (doubled_bits v) p 0 ≡ get_or (bits_of (times 2 v)) p 0
doubled_bit v p h =
    ap (λ (bits : List ℕ). get_or bits p 0) (at_each_byte doubled_bits (λ v. bits_of (times 2 v)) doubled_everywhere v h)
