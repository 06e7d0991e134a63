use Rattle.aes_lanes.proofs.Numbers.{last_lane_bit}
use Rattle.aes_lanes.proofs.counters.last_lane.Goals as goal

pub returns : goal.returns
returns c = λ l b h m. last_lane_bit c.args.bits l b h
