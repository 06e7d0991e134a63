-- The planes of round keys.
use Rattle.std.proofs.Common.{◌≡◌, ℕ, ◌<◌, List, get_or, replicate, subst, ap, ◌∙◌, arith}
use Rattle.std.specs.Prelude.{bit_xor}
use Rattle.std.specs.Simd.Lanes.{zip2}
use Rattle.std.proofs.lemmas.Simd.{length-zip2, get_or-zip2, get_or-replicate}
use Rattle.crypto_spec.specs.Aes.{round_key}
use Rattle.aes_lanes.specs.Places.{lane_of}
use Rattle.aes_lanes.specs.Sliced.{IsByte, IsRow, IsState, masked}
use Rattle.aes_lanes.specs.declared.planes.Planes.{Planes}
use Rattle.aes_lanes.proofs.LanePlaces.{lane_of-lt}
use Rattle.aes_lanes.proofs.Masks.{length-masked, masked-lt, masked_at}

pub IsState-of_row : (x : Planes) (row k : List ℕ) (b : ℕ) → IsRow row k → ((l : ℕ) → l < 16 → IsByte x l b (get_or row l 0))
    → IsState x b k
IsState-of_row x row k b r each = record {
  long = r.long;
  small = r.small;
  bytes = λ i h. subst (λ (v : ℕ). IsByte x (lane_of i) b v) (r.bytes i h) (each (lane_of i) (lane_of-lt i h));
}

pub IsRow-masked : (row k : List ℕ) → IsRow row k → IsRow (zip2 bit_xor row (replicate 16 0x63)) (masked k)
IsRow-masked row k r =
    let lanes = r.lanes in
    let long = r.long in
    record {
      long = length-masked k r.long;
      lanes = length-zip2 bit_xor row (replicate 16 0x63) r.lanes ∙ r.lanes;
      small = λ i h. masked-lt k i r.long r.small h;
      bytes = λ i h. let inside = lane_of-lt i h in
          get_or-zip2 bit_xor row (replicate 16 0x63) (lane_of i) 0 0 0 (omega (arith, inside, lanes)) inside
          ∙ ap (bit_xor (get_or row (lane_of i) 0)) (get_or-replicate 16 (lane_of i) 0x63 0 inside)
          ∙ masked_at k i (omega (arith, h, long)) (r.bytes i h);
    }

-- the planes of a round key as the code takes it
pub other_key : (x : Planes) (b : ℕ) (keys all : List ℕ) (r : ℕ) → keys ≡ all → IsState x b (masked (round_key keys r)) →
    IsState x b (masked (round_key all r))
other_key x b keys all r e state = subst (λ (k : List ℕ). IsState x b (masked (round_key k r))) e state
