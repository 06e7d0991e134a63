use Rattle.std.proofs.Common.{◌∙◌, ap, bit_xor}
use Rattle.std.specs.Simd.Lanes.{zip2}
use Rattle.crypto_spec.specs.Keystream.{keystream_part}
use Rattle.crypto_spec.specs.HopLayer.{layered}
use Rattle.plain_circuit.proofs.opened.layered.Goals as goal

pub returns : goal.returns
unfolding layered
returns c =
    c.apply.ensures.body
    ∙ ap (λ key. zip2 bit_xor c.args.body.now (keystream_part key c.keystream_behind.result.position 509))
    c.keystream_behind.ensures.key
    ∙ ap (λ position. zip2 bit_xor c.args.body.now (keystream_part c.args.key.now position 509))
    c.keystream_behind.ensures.position
