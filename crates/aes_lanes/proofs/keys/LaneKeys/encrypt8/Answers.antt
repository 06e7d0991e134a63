use Rattle.std.proofs.Common.{arith}
use Rattle.crypto_spec.specs.Aes.{aes}
use Rattle.aes_lanes.proofs.BlockRows.{eight_blocks}
use Rattle.aes_lanes.proofs.keys.LaneKeys.encrypt8.Goals as goal

pub returns : goal.returns
returns c =
    eight_blocks (aes c.args.self.now) c.args.blocks.now c.joined.result (omega arith) c.joined.ensures.count
    (λ b h. c.joined.ensures.blocks b _ h (c.passed.ensures b _ h (c.sliced.ensures b h)))
