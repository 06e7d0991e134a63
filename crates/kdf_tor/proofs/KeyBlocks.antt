-- How the key material grows by one hash.
use Rattle.std.proofs.Common.{◌≡◌, ◌+◌, ◌∷◌, ◌++◌, [], List, ℕ, refl, add-one}
pub use Rattle.std.proofs.lemmas.Slice.{overwrites}
use Rattle.sha1.specs.Sha1.{sha1}
use Rattle.crypto_spec.specs.KeyDerivation.{kdf_blocks}

pub no_block : (secret : List ℕ) → kdf_blocks secret 0 ≡ []
unfolding kdf_blocks
no_block secret = refl

pub next_block : (secret : List ℕ) (n : ℕ) →
    kdf_blocks secret (n + 1) ≡ kdf_blocks secret n ++ sha1 (secret ++ n ∷ [])
unfolding kdf_blocks
next_block secret n = rw add-one refl

-- One more hash, and what a write into the middle of a slice leaves of it.
pub ruleset one_more_block = (no_block, next_block, overwrites)
