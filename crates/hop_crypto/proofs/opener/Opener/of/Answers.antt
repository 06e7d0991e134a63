use Rattle.hop_crypto.specs.OpenerState.{place_of}
use Rattle.crypto_spec.specs.HopLayer.{fresh_opening}
use Rattle.hop_crypto.proofs.Opening.{opener_by_parts}
use Rattle.hop_crypto.proofs.opener.Opener.of.Goals as goal

pub invariant_of-result : goal.invariant_of-result
invariant_of-result c =
    let fresh = fresh_opening c.args.keys.now.kf c.args.keys.now.df in
    record {
      layer = fresh;
      state_is = opener_by_parts (record { stream = place_of c.of.result; digest = c.seeded.result }) fresh
          c.of.ensures.key c.of.ensures.start c.seeded.ensures;
    }
