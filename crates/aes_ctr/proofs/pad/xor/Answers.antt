use Rattle.std.proofs.Common.{arith}
use Rattle.aes_ctr.proofs.Pads.{xored}
use Rattle.aes_ctr.proofs.pad.xor.Goals as goal

pub returns : goal.returns
returns c =
    xored c.args.body.now c.args.pad.now c.loop-k.body (omega arith) (omega arith)
    (λ j h. c.loop-k.invariant.done j (omega (arith, h)))
