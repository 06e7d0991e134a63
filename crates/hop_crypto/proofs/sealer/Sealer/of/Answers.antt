use Rattle.hop_crypto.proofs.Sealing.{place_by_parts}
use Rattle.hop_crypto.proofs.sealer.Sealer.of.Goals as goal

pub invariant_of-result : goal.invariant_of-result
invariant_of-result c = record {
  layer = record { key = c.args.keys.now.kb; sealed_count = 0 };
  state_is = place_by_parts c.of.result c.args.keys.now.kb 0 c.of.ensures.key c.of.ensures.start;
}
