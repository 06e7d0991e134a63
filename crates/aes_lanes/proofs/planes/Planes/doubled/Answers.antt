use Rattle.std.proofs.Common.{lit<}
use Rattle.aes_lanes.proofs.Eight.{below_eight}
use Rattle.aes_lanes.proofs.Lanes.{IsBit-xor, IsBit-value}
use Rattle.aes_lanes.proofs.Bytes.{doubled_bit}
use Rattle.aes_lanes.proofs.planes.Planes.doubled.Goals as goal

pub returns : goal.returns
returns c = λ i b v h e. record {
  bits = below_eight _
      (IsBit-value (e.bits 7 (lit< tt)) (doubled_bit v 0 h))
      (IsBit-value (IsBit-xor (e.bits 0 (lit< tt)) (e.bits 7 (lit< tt))) (doubled_bit v 1 h))
      (IsBit-value (e.bits 1 (lit< tt)) (doubled_bit v 2 h))
      (IsBit-value (IsBit-xor (e.bits 2 (lit< tt)) (e.bits 7 (lit< tt))) (doubled_bit v 3 h))
      (IsBit-value (IsBit-xor (e.bits 3 (lit< tt)) (e.bits 7 (lit< tt))) (doubled_bit v 4 h))
      (IsBit-value (e.bits 4 (lit< tt)) (doubled_bit v 5 h))
      (IsBit-value (e.bits 5 (lit< tt)) (doubled_bit v 6 h))
      (IsBit-value (e.bits 6 (lit< tt)) (doubled_bit v 7 h));
}
