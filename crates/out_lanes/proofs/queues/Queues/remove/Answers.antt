use Rattle.hashed_maps.proofs.Keys.{pair_keys}
use Rattle.out_lanes.proofs.Calls.{empties}
use Rattle.out_lanes.proofs.WellFormed.{are-removed}
use Rattle.out_lanes.proofs.queues.Queues.remove.Goals as goal

pub returns : goal.returns
returns c = empties pair_keys c.self.inside.queues c.remove.new.self c.args.leg c.self.view_is c.remove.ensures.updates

pub invariant_of-self : goal.invariant_of-self
invariant_of-self c =
    are-removed c.self.inside.queues c.remove.new.self c.args.leg c.self.invariant c.remove.ensures.updates
