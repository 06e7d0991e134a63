-- KDF-TOR (tor-spec, "KDF-TOR"): key material from a secret, by SHA-1 of the secret and a block number.
use Rattle.std.specs.Prelude.{ℕ, [], ◌∷◌, ◌++◌, List, zero, suc, take, drop}
use Rattle.sha1.specs.Sha1.{sha1}

-- The first n hashes, H(K0 | [00]), H(K0 | [01]), .., one after another.
unfoldable pub kdf_blocks : List ℕ → ℕ → List ℕ
kdf_blocks secret zero = []
kdf_blocks secret (suc n) = kdf_blocks secret n ++ sha1 (secret ++ n ∷ [])

-- The key material of a hop: KH, which shows the other side that both have the same keys; the
-- seeds of the running digests forward and backward, Df and Db; the cipher keys, Kf and Kb.
pub record KeyMaterial : Type 0 where
  pub kh : List ℕ
  pub df : List ℕ
  pub db : List ℕ
  pub kf : List ℕ
  pub kb : List ℕ

-- K is cut into KH, Df and Db of HASH_LEN = 20 bytes and Kf and Kb of KEY_LEN = 16 bytes, in this
-- order.
abbrev pub cut_keys : List ℕ → KeyMaterial
cut_keys k = record {
  kh = take 20 k;
  df = take 20 (drop 20 k);
  db = take 20 (drop 40 k);
  kf = take 16 (drop 60 k);
  kb = take 16 (drop 76 k);
}

-- The key material of CREATE_FAST: K0 = X | Y, with the client's X and the relay's Y. The 92 bytes
-- that are cut lie within five hashes.
unfoldable pub kdf_tor : List ℕ → List ℕ → KeyMaterial
kdf_tor x y = cut_keys (kdf_blocks (x ++ y) 5)
