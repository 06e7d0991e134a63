use Rattle.hashed_maps.proofs.Keys.{number_keys}
use Rattle.out_lanes.proofs.Calls.{empties}
use Rattle.out_lanes.proofs.destroy_lanes.DestroyLanes.remove.Goals as goal

pub returns : goal.returns
returns c = empties number_keys c.self.inside.lanes c.remove.new.self c.args.chan c.self.view_is c.remove.ensures.updates
