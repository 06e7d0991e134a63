use Rattle.aes_lanes.specs.Places.{next_row}
use Rattle.aes_lanes.proofs.Shuffles.{swizzled}
use Rattle.aes_lanes.proofs.mixing.turned_once.Goals as goal

pub returns : goal.returns
returns c = λ l b v h e. swizzled c.args.x next_row l b v h e
