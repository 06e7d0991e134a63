use Rattle.aes_lanes.proofs.BlockRows.{IsRow-turned}
use Rattle.aes_lanes.proofs.rows.block.Goals as goal

pub returns : goal.returns
returns c = IsRow-turned c.args.row c.fits-row.0 c.fits-row.1
