use Rattle.aes_lanes.proofs.LaneKeyPlanes.{IsRow-masked, IsState-of_row}
use Rattle.aes_lanes.specs.Sliced.{masked}
use Rattle.aes_lanes.proofs.keys.other_planes.Goals as goal

pub returns : goal.returns
returns c =
    λ b l. IsState-of_row c.of_key.result _ (masked c.args.key.now) b (IsRow-masked c.row.result c.args.key.now c.row.ensures)
    (λ i h. c.of_key.ensures i b h l)
