use Rattle.std.proofs.Common.{ap, ◌∙◌, bit_xor}
use Rattle.std.specs.Simd.Lanes.{zip2}
use Rattle.crypto_spec.specs.Keystream.{keystream_part}
use Rattle.crypto_spec.specs.HopLayer.{layered}
use Rattle.hop_crypto.specs.OpenerState.{OpenerState}
use Rattle.onion_client.proofs.layer.Layer.put_on.Goals as goal

pub returns-clause-body : goal.returns-clause-body
unfolding layered
returns-clause-body c =
    c.apply.ensures.body
    ∙ ap (λ (o : OpenerState). zip2 bit_xor c.args.body.now (keystream_part o.stream.key o.stream.position 509)) c.self.view_is
