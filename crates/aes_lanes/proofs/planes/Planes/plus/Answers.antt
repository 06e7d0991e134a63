use Rattle.std.proofs.Common.{lit<}
use Rattle.aes_lanes.proofs.Eight.{below_eight}
use Rattle.aes_lanes.proofs.Lanes.{IsBit-sum}
use Rattle.aes_lanes.proofs.planes.Planes.plus.Goals as goal

pub returns : goal.returns
returns c = λ i b v w e f. record {
  bits = below_eight _
      (IsBit-sum v w 0 (e.bits 0 (lit< tt)) (f.bits 0 (lit< tt)))
      (IsBit-sum v w 1 (e.bits 1 (lit< tt)) (f.bits 1 (lit< tt)))
      (IsBit-sum v w 2 (e.bits 2 (lit< tt)) (f.bits 2 (lit< tt)))
      (IsBit-sum v w 3 (e.bits 3 (lit< tt)) (f.bits 3 (lit< tt)))
      (IsBit-sum v w 4 (e.bits 4 (lit< tt)) (f.bits 4 (lit< tt)))
      (IsBit-sum v w 5 (e.bits 5 (lit< tt)) (f.bits 5 (lit< tt)))
      (IsBit-sum v w 6 (e.bits 6 (lit< tt)) (f.bits 6 (lit< tt)))
      (IsBit-sum v w 7 (e.bits 7 (lit< tt)) (f.bits 7 (lit< tt)));
}
