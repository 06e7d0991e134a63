-- Eight blocks by the bits of their bytes.
use Rattle.std.specs.Prelude.{◌≡◌, ℕ, zero, suc, ◌+◌, ◌<◌, List, length, map, bit_xor, slice_index, slice_index_or}
use Rattle.std.specs.Int.{bit_at}
use Rattle.crypto_spec.specs.Aes.{expanded, round_key}
use Rattle.aes_lanes.specs.Bits.{IsBit}
use Rattle.aes_lanes.specs.Places.{lane_of}
use Rattle.aes_lanes.specs.declared.planes.Planes.{Planes}

-- the plane of bit p
abbrev pub plane : Planes → ℕ → List ℕ
plane x zero = x.bit0
plane x (suc zero) = x.bit1
plane x (suc (suc zero)) = x.bit2
plane x (suc (suc (suc zero))) = x.bit3
plane x (suc (suc (suc (suc zero)))) = x.bit4
plane x (suc (suc (suc (suc (suc zero))))) = x.bit5
plane x (suc (suc (suc (suc (suc (suc zero)))))) = x.bit6
plane x (suc (suc (suc (suc (suc (suc (suc n))))))) = x.bit7

-- lane i of block b is the byte v
pub record IsByte (x : Planes) (i b v : ℕ) : Type 0 where
  pub bits : (p : ℕ) → p < 8 → IsBit (plane x p) i b (bit_at v p)

-- block b is s
pub record IsState (x : Planes) (b : ℕ) (s : List ℕ) : Type 0 where
  pub long : length s ≡ 16
  pub small : (i : ℕ) → i < 16 → slice_index s i < 256
  pub bytes : (i : ℕ) → i < 16 → IsByte x (lane_of i) b (slice_index s i)

-- the lanes of a row are the bytes of the block s
pub record IsRow (row s : List ℕ) : Type 0 where
  pub long : length s ≡ 16
  pub lanes : length row ≡ 16
  pub small : (i : ℕ) → i < 16 → slice_index s i < 256
  pub bytes : (i : ℕ) → i < 16 → slice_index row (lane_of i) ≡ slice_index s i

-- a state or a round key with the constant of SubBytes (FIPS 197, 5.1.1) added to each byte
abbrev pub masked : List ℕ → List ℕ
masked s = map (λ v. bit_xor v 0x63) s

-- the planes of a key's round keys, of all but the first with that constant
pub record IsLaneKeys (key : List ℕ) (first : Planes) (others : List Planes) : Type 0 where
  pub first_key : (b : ℕ) → b < 8 → IsState first b (round_key (expanded key 40) 0)
  pub long : length others ≡ 10
  pub other_keys : (n b : ℕ) (none : Planes) → n < 10 → b < 8 →
      IsState (slice_index_or others n none) b (masked (round_key (expanded key 40) (n + 1)))
