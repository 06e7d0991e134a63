use Rattle.channel_loops.proofs.Pieces.{goes_on}
use Rattle.channel_loops.proofs.line.write_piece.Goals as goal

pub loop-bytes_left-preserved : goal.loop-bytes_left-preserved
loop-bytes_left-preserved g c =
    goes_on c.args.session _ _ _ _ _ _ _ _ _ c.args.piece.now c.loop-bytes_left.bytes_left.now c.in-Took.count
    c.loop-bytes_left.invariant c.in-Took.ensures.written c.in-Took.ensures.slot c.in-Took.ensures.counted
