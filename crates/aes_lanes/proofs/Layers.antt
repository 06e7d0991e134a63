-- The three layers of exchanges, which together turn bits and planes about.
use Rattle.std.proofs.Common.{◌≡◌, ℕ, ◌+◌, ◌-◌, ◌*◌, ◌<◌, List, refl, ap, arith}
use Rattle.aes_lanes.specs.Bits.{IsBit, IsFirstExchanged, IsSecondExchanged, digit, exchanged, one_of}
use Rattle.aes_lanes.specs.Sliced.{plane}
use Rattle.aes_lanes.specs.declared.planes.Planes.{Planes}
use Rattle.aes_lanes.proofs.Eight.{below_two, below_eight}
use Rattle.aes_lanes.proofs.Lanes.{IsBit-at}

-- s is 0 or 1: a plane whose number does not have n keeps to itself, or takes from the one that has
chosen_first : (x : Planes) (n j k s i v : ℕ) → s < 2 → IsBit (plane x (j + n * s - n * 0)) i (k + n * 0 - n * s) v →
    IsBit (one_of s (plane x j) (plane x (j + n))) i (k - n * s) v
chosen_first x n j k s i v h e =
    below_two (λ s. IsBit (plane x (j + n * s - n * 0)) i (k + n * 0 - n * s) v
    → IsBit (one_of s (plane x j) (plane x (j + n))) i (k - n * s) v)
    (λ e. IsBit-at (ap (plane x) (omega arith)) (omega arith) e)
    (λ e. IsBit-at (ap (plane x) (omega arith)) (omega arith) e) s h e

chosen_second : (x : Planes) (n j k s i v : ℕ) → s < 2 → IsBit (plane x (j + n + n * s - n * 1)) i (k + n * 1 - n * s) v →
    IsBit (one_of s (plane x j) (plane x (j + n))) i (k + n - n * s) v
chosen_second x n j k s i v h e =
    below_two (λ s. IsBit (plane x (j + n + n * s - n * 1)) i (k + n * 1 - n * s) v
    → IsBit (one_of s (plane x j) (plane x (j + n))) i (k + n - n * s) v)
    (λ e. IsBit-at (ap (plane x) (omega arith)) (omega arith) e)
    (λ e. IsBit-at (ap (plane x) (omega arith)) (omega arith) e) s h e

-- what an exchange of the planes j and j + n gives, where j does not have n
pub first_plane : (x : Planes) (n j : ℕ) (r : List ℕ) → IsFirstExchanged n (plane x j) (plane x (j + n)) r →
    (i k v : ℕ) → i < 16 → k < 8 → IsBit (plane x (j + n * digit n k - n * 0)) i (k + n * 0 - n * digit n k) v → IsBit r i k v
first_plane x n j r gives i k v h l e = gives i k v h l (chosen_first x n j k (digit n k) i v (omega arith) e)

pub second_plane : (x : Planes) (n j : ℕ) (r : List ℕ) → IsSecondExchanged n (plane x j) (plane x (j + n)) r →
    (i k v : ℕ) → i < 16 → k < 8 → IsBit (plane x (j + n + n * digit n k - n * 1)) i (k + n * 1 - n * digit n k) v → IsBit r i k v
second_plane x n j r gives i k v h l e = gives i k v h l (chosen_second x n j k (digit n k) i v (omega arith) e)

pub exchanged_4_below : (j k : ℕ) → j < 8 → k < 8 → exchanged 4 j k < 8
exchanged_4_below j k h l = omega arith

pub exchanged_2_below : (j k : ℕ) → j < 8 → k < 8 → exchanged 2 j k < 8
exchanged_2_below j k h l = omega arith

-- all three bits of j taken from k
abbrev pub all_exchanged : ℕ → ℕ → ℕ
all_exchanged j k =
    exchanged 1 (exchanged 2 (exchanged 4 j k) (exchanged 4 k j)) (exchanged 2 (exchanged 4 k j) (exchanged 4 j k))

pub all_exchanged_is : (j k : ℕ) → j < 8 → k < 8 → all_exchanged j k ≡ k
all_exchanged_is j k h l =
    below_eight (λ j. (k : ℕ) → k < 8 → all_exchanged j k ≡ k)
    (below_eight (λ k. all_exchanged 0 k ≡ k) refl refl refl refl refl refl refl refl)
    (below_eight (λ k. all_exchanged 1 k ≡ k) refl refl refl refl refl refl refl refl)
    (below_eight (λ k. all_exchanged 2 k ≡ k) refl refl refl refl refl refl refl refl)
    (below_eight (λ k. all_exchanged 3 k ≡ k) refl refl refl refl refl refl refl refl)
    (below_eight (λ k. all_exchanged 4 k ≡ k) refl refl refl refl refl refl refl refl)
    (below_eight (λ k. all_exchanged 5 k ≡ k) refl refl refl refl refl refl refl refl)
    (below_eight (λ k. all_exchanged 6 k ≡ k) refl refl refl refl refl refl refl refl)
    (below_eight (λ k. all_exchanged 7 k ≡ k) refl refl refl refl refl refl refl refl)
    j h k l
