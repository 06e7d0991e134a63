-- What SHA-1 keeps of the bytes hashed so far (FIPS 180-4, sections 5 and 6): the value of a
-- `Running`.
use Rattle.std.specs.Prelude.{◌≡◌, ℕ, ◌*◌, ◌/◌, ◌%◌, ◌^◌, List, length, drop}
use Rattle.sha1.specs.Sha1.{hash_after}
use Rattle.crypto_spec.specs.RunningDigest.{digest_message}

-- The hash value after the whole blocks, the bytes behind them, and the number of all bytes modulo
-- 2 ^ 64, from which the padding takes the length.
pub record HashState : Type 0 where
  pub hash : List ℕ
  pub rest : List ℕ
  pub total : ℕ

-- The state after a message.
unfoldable pub hash_state : List ℕ → HashState
hash_state m = record {
  hash = hash_after m (length m / 64);
  rest = drop (length m / 64 * 64) m;
  total = length m % 2 ^ 64;
}

-- The state is that of a running digest with this seed, by which these bodies have gone.
abbrev pub HasAbsorbed : HashState → List ℕ → List (List ℕ) → Type 0
HasAbsorbed state seed bodies = state ≡ hash_state (digest_message seed bodies)
