use Rattle.aes_lanes.specs.Places.{shifted_lane}
use Rattle.aes_lanes.proofs.Shuffles.{swizzled}
use Rattle.aes_lanes.proofs.mixing.shifted.Goals as goal

pub returns : goal.returns
returns c = λ l b v h e. swizzled c.args.x shifted_lane l b v h e
