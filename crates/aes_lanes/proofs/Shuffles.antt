-- Vectors whose lanes are taken from fixed places of another.
use Rattle.std.proofs.Common.{◌≡◌, ℕ, ◌<◌, List, ◌++◌, length, get_or, map, ap, ◌∙◌, arith}
use Rattle.std.specs.Int.{bit_at}
use Rattle.std.specs.List.{range_with_len}
use Rattle.std.proofs.lemmas.List.{get_or_append_left}
use Rattle.std.proofs.lemmas.List.FromFn.{get_or-map-range_with_len}
use Rattle.aes_lanes.specs.Bits.{IsBit}

-- a swizzle reads a vector that is written down twice
pub swizzled_at : (x : List ℕ) (from : ℕ → ℕ) (i : ℕ) → i < 16 → from i < length x →
    get_or (map (λ k. get_or (x ++ x) (from k) 0) (range_with_len 0 16)) i 0 ≡ get_or x (from i) 0
swizzled_at x from i h within =
    get_or-map-range_with_len (λ k. get_or (x ++ x) (from k) 0) 0 16 i i 0 h (omega arith)
    ∙ get_or_append_left x x 0 (from i) within

pub swizzled : (x : List ℕ) (from : ℕ → ℕ) (i b v : ℕ) → i < 16 → IsBit x (from i) b v →
    IsBit (map (λ k. get_or (x ++ x) (from k) 0) (range_with_len 0 16)) i b v
swizzled x from i b v h e = record {
  within = h;
  bit = ap (λ (n : ℕ). bit_at n b) (swizzled_at x from i h e.within) ∙ e.bit;
}
