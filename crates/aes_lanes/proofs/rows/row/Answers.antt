use Rattle.aes_lanes.proofs.BlockRows.{IsRow-swizzled}
use Rattle.aes_lanes.proofs.rows.row.Goals as goal

pub returns : goal.returns
returns c = IsRow-swizzled c.args.block.now c.requires (λ i. (c.type_inv.block i).fits)
