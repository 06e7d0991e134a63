-- Single bits of a vector.
use Rattle.std.specs.Prelude.{◌≡◌, ℕ, zero, suc, ◌+◌, ◌-◌, ◌*◌, ◌/◌, ◌%◌, ◌<◌, List, length, slice_index}
use Rattle.std.specs.Int.{bit_at}

-- bit b of lane i is v
pub record IsBit (x : List ℕ) (i b v : ℕ) : Type 0 where
  pub within : i < length x
  pub bit : bit_at (slice_index x i) b ≡ v

-- the bit of k that counts n
abbrev pub digit : ℕ → ℕ → ℕ
digit n k = k / n % 2

-- j with its bit that counts n taken from k
abbrev pub exchanged : ℕ → ℕ → ℕ → ℕ
exchanged n j k = j + n * digit n k - n * digit n j

-- the first of two vectors, or the second
abbrev pub one_of : ℕ → List ℕ → List ℕ → List ℕ
one_of zero a b = a
one_of (suc n) a b = b

-- r is a, with the bits that count n taken from b, where they do not
abbrev pub IsFirstExchanged : ℕ → List ℕ → List ℕ → List ℕ → Type 0
IsFirstExchanged n a b r = (i k v : ℕ) → i < 16 → k < 8 → IsBit (one_of (digit n k) a b) i (k - n * digit n k) v → IsBit r i k v

-- r is b, with the bits that do not count n taken from a, where they do
abbrev pub IsSecondExchanged : ℕ → List ℕ → List ℕ → List ℕ → Type 0
IsSecondExchanged n a b r = (i k v : ℕ) → i < 16 → k < 8 → IsBit (one_of (digit n k) a b) i (k + n - n * digit n k) v
    → IsBit r i k v
