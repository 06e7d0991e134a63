-- Words of a block's message schedule (FIPS 180-4, 6.1.2, step 1).
use Rattle.std.specs.Prelude.{◌≡◌, ℕ, ◌+◌, ◌<◌, ◌∷◌, [], List, slice_index}
use Rattle.sha1.specs.Sha1.{schedule}

-- W t
unfoldable pub word : List ℕ → ℕ → ℕ
word block t = slice_index (schedule block 64) t

-- W n and the three words behind it
abbrev pub four_words : List ℕ → ℕ → List ℕ
four_words block n = word block n ∷ word block (n + 1) ∷ word block (n + 2) ∷ word block (n + 3) ∷ []

-- The first n of these words are those of the schedule.
abbrev pub HasWords : List ℕ → ℕ → List ℕ → Type 0
HasWords block n words = (t : ℕ) → t < n → slice_index words t ≡ word block t
