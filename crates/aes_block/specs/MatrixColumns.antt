-- The columns of the matrix of MixColumns (FIPS 197, 5.1.3), times a byte: what the byte in that row of
-- a column of the state adds to the column that comes out.
use Rattle.std.specs.Prelude.{ℕ, List, [], ◌∷◌}
use Rattle.crypto_spec.specs.Aes.{times}

-- for row 0
abbrev pub first_column : ℕ → List ℕ
first_column b = times 2 b ∷ b ∷ b ∷ times 3 b ∷ []

-- for row 1
abbrev pub second_column : ℕ → List ℕ
second_column b = times 3 b ∷ times 2 b ∷ b ∷ b ∷ []

-- for row 2
abbrev pub third_column : ℕ → List ℕ
third_column b = b ∷ times 3 b ∷ times 2 b ∷ b ∷ []

-- for row 3
abbrev pub fourth_column : ℕ → List ℕ
fourth_column b = b ∷ b ∷ times 3 b ∷ times 2 b ∷ []
