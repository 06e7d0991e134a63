use Rattle.std.proofs.Common.{refl, ◌∙◌, ◌-◌, length}
use Rattle.onion_client.proofs.Layering.{sealed_by, sent_by, digest_by}
use Rattle.onion_client.proofs.layers.seal_all.Goals as goal

pub returns-clause-body : goal.returns-clause-body
returns-clause-body c = λ path stands.
    c.put_on_all.ensures.body
    ∙ sealed_by path c.args.hops.now (length c.args.hops.now - 1) c.index-hops-last.result c.give_digest-digest.new.self
    c.args.body.now c.give_digest-digest.new.body c.give_digest-digest.result
    (record {
      given_is = c.give_digest-digest.ensures.body;
      digest_is = c.give_digest-digest.ensures.digest;
      state =
          c.give_digest-digest.ensures.state;
    })
    stands refl c.requires.some

pub returns-clause-digest : goal.returns-clause-digest
returns-clause-digest c = λ path stands.
    digest_by path c.args.hops.now (length c.args.hops.now - 1) c.index-hops-last.result c.give_digest-digest.new.self
    c.args.body.now c.give_digest-digest.new.body c.give_digest-digest.result
    (record {
      given_is = c.give_digest-digest.ensures.body;
      digest_is = c.give_digest-digest.ensures.digest;
      state =
          c.give_digest-digest.ensures.state;
    })
    stands refl c.requires.some

pub returns-clause-state : goal.returns-clause-state
returns-clause-state c = λ path stands.
    c.put_on_all.ensures.state
    ∙ sent_by path c.args.hops.now (length c.args.hops.now - 1) c.index-hops-last.result c.give_digest-digest.new.self
    c.args.body.now c.give_digest-digest.new.body c.give_digest-digest.result
    (record {
      given_is = c.give_digest-digest.ensures.body;
      digest_is = c.give_digest-digest.ensures.digest;
      state =
          c.give_digest-digest.ensures.state;
    })
    stands refl c.requires.some
