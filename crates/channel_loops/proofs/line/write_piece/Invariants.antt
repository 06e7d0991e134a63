use Rattle.std.proofs.Common.{length}
use Rattle.channel_loops.proofs.Pieces.{Writing}
use Rattle.channel_loops.proofs.line.write_piece.Given as goal

abbrev pub invariant-loop-bytes_left : goal.invariant-loop-bytes_left
invariant-loop-bytes_left g l =
    Writing l.session (g.K.SlotOut.written l.initial.link) (g.K.SlotOut.written l.link) (g.K.SlotOut.slot l.initial.link)
    (g.K.SlotOut.slot l.link) (g.K.SlotOut.faults l.initial.link) (g.K.SlotOut.faults l.link) l.initial.piece l.bytes_left

abbrev pub decreases-loop-bytes_left : goal.decreases-loop-bytes_left
decreases-loop-bytes_left g l = length l.bytes_left
