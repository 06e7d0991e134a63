use Rattle.std.proofs.Common.{[], ◌∷◌, ◌++◌, ◌∙◌, ap}
use Rattle.hop_crypto.specs.OpenerState.{OpenerState}
use Rattle.relay_padding.proofs.Digests.{stands_with_digest, digest_with_digest}
use Rattle.onion_client.proofs.Sealing.{sealing_by_parts}
use Rattle.onion_client.proofs.layer.Layer.give_digest.Goals as goal

pub returns-clause-digest : goal.returns-clause-digest
returns-clause-digest c = λ hop is.
    c.digest-digest.ensures hop.keys.df (hop.meant_bodies ++ c.args.body.now ∷ [])
    (c.absorb.ensures hop.keys.df hop.meant_bodies (ap (λ (o : OpenerState). o.digest) (c.self.view_is ∙ is)))
    ∙ digest_with_digest hop.keys.df hop.meant_bodies c.args.body.now c.put_digest.new.body _ _ _ _ c.told-body
    c.put_digest.ensures

pub returns-clause-state : goal.returns-clause-state
returns-clause-state c = λ hop is.
    sealing_by_parts _ hop c.put_digest.new.body
    (ap (λ (o : OpenerState). o.stream) (c.self.view_is ∙ is))
    (stands_with_digest c.absorb.new.self hop.keys.df hop.meant_bodies c.args.body.now c.put_digest.new.body _ _ _ _ c.told-body
    c.put_digest.ensures
    (c.absorb.ensures hop.keys.df hop.meant_bodies (ap (λ (o : OpenerState). o.digest) (c.self.view_is ∙ is))))
