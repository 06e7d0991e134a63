use Rattle.std.proofs.Common.{arith}
use Rattle.run_digest.proofs.Blocks.{block_taken}
use Rattle.run_digest.proofs.hasher.take_blocks.Goals as goal

pub loop-i-preserved : goal.loop-i-preserved
loop-i-preserved c = λ message n at before.
    block_taken message c.args.bytes.now c.loop-i.hash c.compress.new.hash n c.loop-i.i _ at
    (c.loop-i.invariant message n at before) (omega arith) c.compress.ensures
