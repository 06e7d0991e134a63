-- The running digest of relay cells (tor-spec, "Calculating the 'Digest' field"). A body is the 509
-- bytes of a relay cell's payload, before encryption.
use Rattle.std.specs.Prelude.{ℕ, ◌∷◌, ◌++◌, List, take, drop}
use Rattle.std.specs.List.{flat_map}
use Rattle.sha1.specs.Sha1.{sha1}

-- A body with the digest field set to zero: its four bytes at offsets 5 to 8.
abbrev pub zeroed : List ℕ → List ℕ
zeroed body = take 5 body ++ 0 ∷ 0 ∷ 0 ∷ 0 ∷ drop 9 body

-- The bytes that are hashed: the seed, Df or Db, and then each body with its digest field zero.
unfoldable pub digest_message : List ℕ → List (List ℕ) → List ℕ
digest_message seed bodies = seed ++ flat_map zeroed bodies

-- The running digest, 20 bytes, once these bodies have gone by.
unfoldable pub running_digest : List ℕ → List (List ℕ) → List ℕ
running_digest seed bodies = sha1 (digest_message seed bodies)
