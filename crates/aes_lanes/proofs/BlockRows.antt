-- Blocks as rows of bits, before they are turned into planes and after.
use Rattle.std.proofs.Common.{◌≡◌, ℕ, ◌<◌, List, [], ◌++◌, length, take, get_or, map, refl, ap, sym, subst, ◌∙◌, arith, Fits}
use Rattle.std.specs.Int.{bit_at}
use Rattle.std.specs.List.{range_with_len}
use Rattle.std.specs.Simd.Lanes.{Each1}
use Rattle.std.proofs.lemmas.List.{same_lists, get_or_default, get_or-map, length-map, take_all}
use mir.Syntax.{w8}
use Rattle.std.proofs.lemmas.Grind.{same_number_lists}
use Rattle.std.proofs.lemmas.Nat.Bits.{same_from_bits_below}
use Rattle.aes_lanes.specs.Bits.{IsBit}
use Rattle.aes_lanes.specs.Places.{lane_of}
use Rattle.aes_lanes.specs.Sliced.{plane, IsRow, IsState}
use Rattle.aes_lanes.specs.declared.planes.Planes.{Planes}
use Rattle.aes_lanes.proofs.LanePlaces.{lane_of-lt, lane_of_lane}
use Rattle.aes_lanes.proofs.Shuffles.{swizzled_at}
use Rattle.aes_lanes.proofs.States.{lane-lt}

-- the lanes of a vector, taken where the place's lane is
abbrev pub turned_row : List ℕ → List ℕ
turned_row x = map (λ k. get_or (x ++ x) (lane_of k) 0) (range_with_len 0 16)

turned_row_at : (x : List ℕ) (i : ℕ) → length x ≡ 16 → i < 16 → get_or (turned_row x) i 0 ≡ get_or x (lane_of i) 0
turned_row_at x i long h =
    let inside = lane_of-lt i h in swizzled_at x lane_of i h (omega (arith, inside, long))

pub IsRow-swizzled : (s : List ℕ) → length s ≡ 16 → ((i : ℕ) → get_or s i 0 < 256) → IsRow (turned_row (take 16 s)) s
IsRow-swizzled s long small =
    let whole : take 16 s ≡ s = take_all 16 s (omega (arith, long)) in
    record {
      long = long;
      lanes = refl;
      small = λ i h. small i;
      bytes = λ i h.
          turned_row_at (take 16 s) (lane_of i) (ap length whole ∙ long) (lane_of-lt i h)
          ∙ ap (λ (n : ℕ). get_or (take 16 s) n 0) (lane_of_lane i h)
          ∙ ap (λ (x : List ℕ). get_or x i 0) whole;
    }

pub IsRow-turned : (row : List ℕ) → length row ≡ 16 → Each1 (Fits w8) row → IsRow row (turned_row row)
IsRow-turned row long fits = record {
  long = refl;
  lanes = long;
  small = λ i h. subst (λ (n : ℕ). n < 256) (sym (turned_row_at row i long h))
      (lane-lt row (lane_of i) long fits (lane_of-lt i h));
  bytes = λ i h. sym (turned_row_at row i long h);
}

-- a row whose bits are turned into planes
pub row_sliced : (x : Planes) (row s : List ℕ) (b : ℕ) → IsRow row s →
    ((l p v : ℕ) → l < 16 → p < 8 → IsBit row l p v → IsBit (plane x p) l b v) → IsState x b s
row_sliced x row s b r turned =
    let lanes = r.lanes in
    record {
      long = r.long;
      small = r.small;
      bytes = λ i h. let inside = lane_of-lt i h in record {
        bits = λ p l. turned (lane_of i) p _ inside l
            (record { within = omega (arith, inside, lanes); bit = ap (λ (n : ℕ). bit_at n p) (r.bytes i h) });
      };
    }

-- a row with the bits of a block is the block's
pub row_joined : (x : Planes) (row out s : List ℕ) (b : ℕ) → IsRow row out → IsState x b s →
    ((l p v : ℕ) → l < 16 → p < 8 → IsBit (plane x p) l b v → IsBit row l p v) → out ≡ s
row_joined x row out s b r e turned =
    let long = r.long in
    same_number_lists out s (r.long ∙ sym e.long)
    (λ i h. let within : i < 16 = omega (arith, h, long) in
    same_from_bits_below 8 _ _ (r.small i within) (e.small i within)
    (λ p l. ap (λ (n : ℕ). bit_at n p) (sym (r.bytes i within))
    ∙ (turned (lane_of i) p (bit_at (get_or s i 0) p) (lane_of-lt i within) l ((e.bytes i within).bits p l)).bit))

-- a list of eight blocks by what each became
pub eight_blocks : (f : List ℕ → List ℕ) (old new : List (List ℕ)) → length old ≡ 8 → length new ≡ 8 →
    ((b : ℕ) → b < 8 → get_or new b [] ≡ f (get_or old b [])) → new ≡ map f old
eight_blocks f old new long same each =
    same_lists new (map f old) (same ∙ sym long ∙ sym (length-map old f))
    (λ k d h. get_or_default new k d [] h ∙ each k (omega (arith, h)) ∙ sym (get_or-map f old k [] d (omega (arith, h))))
