use Rattle.std.proofs.Common.{ap, arith}
use Rattle.hop_crypto.specs.declared.cipher.Cipher.TheVariants.{Forth, Back}
use Rattle.switch_core.proofs.Relays.{born_stands}
use Rattle.switch_core.proofs.relay.Relay.new.Goals as goal

pub returns : goal.returns
returns c =
    λ reply. born_stands _ _ c.args.keys.now c.args.pad reply (c.new-circuit.ensures.circuit reply) (ap Forth c.of-opener.ensures)
    (ap Back c.of-sealer.ensures)
    (record {
      windows = omega (arith, c.new-circuit.ensures.windows);
      packager = omega (arith, c.new-circuit.ensures.packaged);
      places = omega (arith, c.new-circuit.ensures.places);
    })
