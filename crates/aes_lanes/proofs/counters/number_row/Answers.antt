use Rattle.std.proofs.Common.{arith}
use Rattle.aes_lanes.proofs.Numbers.{without_bytes, IsRow-number}
use Rattle.aes_lanes.proofs.counters.number_row.Goals as goal

pub returns : goal.returns
unfolding without_bytes
returns c = IsRow-number _ c.args.number (omega arith)
