use Rattle.std.proofs.Common.{[], ◌∷◌, ◌++◌, ◌∙◌, ap, sym, arith, length-append}
use Rattle.run_digest.specs.HashState.{HasAbsorbed}
use Rattle.circuit_model.specs.Opened.{born_keys}
use Rattle.circuit_model.specs.Packaged.{own_bodies}
use Rattle.circ_relay.specs.Packaging.{PackagerState}
use Rattle.relay_padding.proofs.Digests.{stands_with_digest, digest_with_digest}
use Rattle.circ_relay.proofs.packager.Packager.package.Goals as goal

pub returns-clause-digest : goal.returns-clause-digest
returns-clause-digest c = λ log is.
    let seed = (born_keys log).db in
    let before = own_bodies log in
    c.digest-digest.ensures seed (before ++ c.put.new.body ∷ [])
    (c.absorb.ensures seed before (ap (λ (s : PackagerState). s.digest) c.self.view_is ∙ is.digest))
    ∙ digest_with_digest seed before c.put.new.body c.put_digest.new.body _ _ _ _ c.put.array_long c.put_digest.ensures

pub returns-clause-next : goal.returns-clause-next
returns-clause-next c = λ log is longer more same.
    let seed = (born_keys log).db in
    let before = own_bodies log in
    let now : HasAbsorbed c.absorb.new.self seed (before ++ c.put_digest.new.body ∷ []) =
    stands_with_digest c.absorb.new.self seed before c.put.new.body c.put_digest.new.body _ _ _ _ c.put.array_long
    c.put_digest.ensures
    (c.absorb.ensures seed before (ap (λ (s : PackagerState). s.digest) c.self.view_is ∙ is.digest)) in
    record {
      digest = rw (more, same.keys) now;
      key = c.put.ensures.key ∙ ap (λ (s : PackagerState). s.padding.key) c.self.view_is ∙ is.key ∙ sym same.pad;
      count =
          rw (more, length-append before (c.put_digest.new.body ∷ []))
          (omega (arith, c.put.ensures.count, ap (λ (s : PackagerState). s.padding.count) c.self.view_is, is.count));
    }
