-- Keystream by itself.
use Rattle.std.proofs.Common.{◌≡◌, ℕ, suc, zero, [], ◌∷◌, List, length, replicate, refl, ap, bit_xor, arith}
use Rattle.std.specs.Simd.Lanes.{zip2}

-- Zero bytes with a keystream put on are the keystream.
pub xor_of_zeros : (n : ℕ) (keystream : List ℕ) → length keystream ≡ n → zip2 bit_xor (replicate n 0) keystream ≡ keystream
xor_of_zeros zero [] long = refl
xor_of_zeros zero (k ∷ ks) long = absurd (omega arith)
xor_of_zeros (suc n) [] long = absurd (omega arith)
xor_of_zeros (suc n) (k ∷ ks) long = ap (λ rest. k ∷ rest) (xor_of_zeros n ks (omega arith))
