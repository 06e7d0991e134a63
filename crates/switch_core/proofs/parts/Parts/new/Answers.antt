use Rattle.std.proofs.Common.{arith}
use Rattle.switch_core.proofs.Lanes.{no_lanes}
use Rattle.switch_core.proofs.Taken.{none_taken}
use Rattle.switch_core.proofs.parts.Parts.new.Goals as goal

pub invariant_of-result : goal.invariant_of-result
invariant_of-result c = rw c.new.ensures (record {
  lanes = no_lanes 0 _ c.in_ok-with_capacity.ensures.items;
  taken = none_taken 0 _ c.in_ok-with_capacity-2.ensures.items;
  bodies_fit = omega arith;
  claims_fit = omega arith;
  dials_fit = omega arith;
})
