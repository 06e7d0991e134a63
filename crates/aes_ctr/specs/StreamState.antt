-- What a contract sees of a keystream in use.
use Rattle.std.specs.Prelude.{◌≡◌, ℕ, ◌+◌, ◌-◌, ◌%◌, ◌≤◌, List, drop}
use Rattle.crypto_spec.specs.Keystream.{keystream_part}

-- the key's 16 bytes, the number of the next byte of keystream, and how many bytes from there on are made
pub record StreamState : Type 0 where
  pub key : List ℕ
  pub position : ℕ
  pub ready : ℕ

-- A store of 1,152 bytes, of which the first are used and the others are the next bytes of keystream, up
-- to the end of a group of eight blocks. Of these, so many count as ready.
pub record IsStore (key : List ℕ) (position : ℕ) (store : List ℕ) (used ready : ℕ) : Type 0 where
  pub within : used + ready ≤ 1152
  pub most : ready ≤ 1024
  pub next : drop used store ≡ keystream_part key position (1152 - used)
  pub whole : (position + (1152 - used)) % 128 ≡ 0
