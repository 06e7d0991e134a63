use Rattle.std.proofs.Common.{◌+◌, ap, ◌∙◌, arith, bit_xor}
use Rattle.std.specs.Simd.Lanes.{zip2}
use Rattle.crypto_spec.specs.Keystream.{keystream_part}
use Rattle.crypto_spec.specs.HopLayer.{layered}
use Rattle.hop_crypto.specs.OpenerState.{StreamPlace}
use Rattle.hop_crypto.proofs.Sealing.{place_by_parts}
use Rattle.hop_crypto.proofs.sealer.Sealer.put_on.Goals as goal

pub returns-clause-body : goal.returns-clause-body
unfolding layered
returns-clause-body c =
    c.apply.ensures.body
    ∙ ap (λ (s : StreamPlace). zip2 bit_xor c.args.body.now (keystream_part s.key s.position 509)) c.self.view_is

pub invariant_of-self : goal.invariant_of-self
invariant_of-self c =
    let layer = c.self.invariant.layer in
    let place = c.self.invariant.state_is in
    record {
      layer = record { key = layer.key; sealed_count = layer.sealed_count + 1 };
      state_is = place_by_parts c.apply.new.self layer.key (layer.sealed_count + 1)
          (c.apply.ensures.key ∙ ap (λ (s : StreamPlace). s.key) place)
          (omega (arith, c.apply.ensures.position, ap (λ (s : StreamPlace). s.position) place));
    }
