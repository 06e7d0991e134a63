-- Where the lanes of a state's places are.
use Rattle.std.proofs.Common.{◌≡◌, ℕ, ◌<◌, refl, arith}
use Rattle.aes_lanes.specs.Places.{moved_to, row_below, two_rows_below, lane_of, shifted_lane, next_row, second_row}
use Rattle.aes_lanes.proofs.Eight.{below_sixteen}

pub lane_of-lt : (i : ℕ) → i < 16 → lane_of i < 16
lane_of-lt i h = omega arith

pub shifted_lane-lt : (l : ℕ) → l < 16 → shifted_lane l < 16
shifted_lane-lt l h = omega arith

pub second_row-lt : (l : ℕ) → l < 16 → second_row l < 16
second_row-lt l h = omega arith

pub lane_of_lane : (i : ℕ) → i < 16 → lane_of (lane_of i) ≡ i
lane_of_lane =
    below_sixteen (λ i. lane_of (lane_of i) ≡ i) refl refl refl refl refl refl refl refl refl refl refl refl refl refl refl refl

pub lane_moved_to : (i : ℕ) → i < 16 → lane_of (moved_to i) ≡ shifted_lane (lane_of i)
lane_moved_to =
    below_sixteen (λ i. lane_of (moved_to i) ≡ shifted_lane (lane_of i)) refl refl refl refl refl refl refl refl refl refl refl
    refl refl refl refl refl

pub lane_below : (i : ℕ) → i < 16 → lane_of (row_below i) ≡ next_row (lane_of i)
lane_below =
    below_sixteen (λ i. lane_of (row_below i) ≡ next_row (lane_of i)) refl refl refl refl refl refl refl refl refl refl refl refl
    refl refl refl refl

pub lane_two_below : (i : ℕ) → i < 16 → lane_of (two_rows_below i) ≡ second_row (lane_of i)
lane_two_below =
    below_sixteen (λ i. lane_of (two_rows_below i) ≡ second_row (lane_of i)) refl refl refl refl refl refl refl refl refl refl
    refl refl refl refl refl refl

pub lane_three_below : (i : ℕ) → i < 16 → lane_of (row_below (two_rows_below i)) ≡ next_row (second_row (lane_of i))
lane_three_below =
    below_sixteen (λ i. lane_of (row_below (two_rows_below i)) ≡ next_row (second_row (lane_of i))) refl refl refl refl refl refl
    refl refl refl refl refl refl refl refl refl refl
