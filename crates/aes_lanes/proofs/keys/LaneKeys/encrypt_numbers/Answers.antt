use Rattle.aes_lanes.proofs.keys.LaneKeys.encrypt_numbers.Goals as goal

pub returns : goal.returns
returns c = λ b h. c.joined.ensures.blocks b _ h (c.passed.ensures b _ h (c.eight_numbers.ensures b h))
