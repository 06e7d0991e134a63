use Rattle.std.proofs.Common.{ℕ, subst}
use Rattle.aes_lanes.specs.Places.{lane_of}
use Rattle.aes_lanes.specs.Sliced.{IsByte}
use Rattle.aes_lanes.proofs.States.{length-add, added_at, added-lt}
use Rattle.aes_lanes.proofs.rounds.keyed.Goals as goal

pub returns : goal.returns
returns c = λ b s k e f. record {
  long = length-add s k e.long f.long;
  small = λ i h. added-lt s k i e.long f.long h (e.small i h) (f.small i h);
  bytes = λ i h. subst (λ (v : ℕ). IsByte c.plus.result (lane_of i) b v) (added_at s k i e.long f.long h)
      (c.plus.ensures (lane_of i) b _ _ (e.bytes i h) (f.bytes i h));
}
