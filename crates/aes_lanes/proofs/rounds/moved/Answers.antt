use Rattle.std.proofs.Common.{ℕ, get_or, subst, refl}
use Rattle.aes_lanes.specs.Places.{moved_to, lane_of, shifted_lane}
use Rattle.aes_lanes.specs.Sliced.{IsByte}
use Rattle.aes_lanes.proofs.LanePlaces.{lane_of-lt, lane_moved_to}
use Rattle.aes_lanes.proofs.Masks.{masked-lt, masked_at}
use Rattle.aes_lanes.proofs.States.{moved, moved_at, moved-lt, moved_to-lt}
use Rattle.aes_lanes.proofs.rounds.moved.Goals as goal

pub returns : goal.returns
returns c = λ b s l e. record {
  long = refl;
  small = λ i h. masked-lt (moved s) i refl (moved-lt s e.long e.small) h;
  bytes = λ i h.
      let x = c.args.state in
      let from = moved_to i in
      let inside = moved_to-lt i h in
      let lane = shifted_lane (lane_of i) in
      let here : IsByte x lane b (get_or s from 0) =
      subst (λ (n : ℕ). IsByte x n b (get_or s from 0)) (lane_moved_to i h) (e.bytes from inside) in
      subst (λ (v : ℕ). IsByte c.substituted.result (lane_of i) b v)
      (masked_at (moved s) i h (moved_at s i e.long h))
      (c.substituted.ensures (lane_of i) b _ (lane_of-lt i h) l (e.small from inside)
      (c.rows_shifted.ensures (lane_of i) b _ (lane_of-lt i h) here));
}
