use Rattle.std.proofs.Common.{ℕ, get_or, subst, refl}
use Rattle.aes_lanes.specs.Places.{row_below, two_rows_below, lane_of}
use Rattle.aes_lanes.specs.Sliced.{IsByte}
use Rattle.aes_lanes.proofs.LanePlaces.{lane_of-lt, lane_below, lane_two_below, lane_three_below}
use Rattle.aes_lanes.proofs.MixColumns.{mixed_at}
use Rattle.aes_lanes.proofs.States.{mixed-lt, row_below-lt, two_rows_below-lt}
use Rattle.aes_lanes.proofs.rounds.mixed.Goals as goal

pub returns : goal.returns
returns c = λ b s e. record {
  long = refl;
  small = mixed-lt s e.small;
  bytes = λ i h.
      let x = c.args.state in
      let below = row_below i in
      let two = two_rows_below i in
      let three = row_below two in
      let two_in = two_rows_below-lt i h in
      subst (λ (v : ℕ). IsByte c.columns_mixed.result (lane_of i) b v) (mixed_at s e.small i h)
      (c.columns_mixed.ensures (lane_of i) b _ _ _ _ (lane_of-lt i h) (e.small i h) (e.small below (row_below-lt i h))
      (e.bytes i h)
      (subst (λ (n : ℕ). IsByte x n b (get_or s below 0)) (lane_below i h) (e.bytes below (row_below-lt i h)))
      (subst (λ (n : ℕ). IsByte x n b (get_or s two 0)) (lane_two_below i h) (e.bytes two two_in))
      (subst (λ (n : ℕ). IsByte x n b (get_or s three 0)) (lane_three_below i h) (e.bytes three (row_below-lt two two_in))));
}
