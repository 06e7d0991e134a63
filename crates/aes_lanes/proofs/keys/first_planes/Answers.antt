use Rattle.aes_lanes.proofs.LaneKeyPlanes.{IsState-of_row}
use Rattle.aes_lanes.proofs.keys.first_planes.Goals as goal

pub returns : goal.returns
returns c = λ b l. IsState-of_row c.of_key.result c.row.result c.args.key.now b c.row.ensures (λ i h. c.of_key.ensures i b h l)
