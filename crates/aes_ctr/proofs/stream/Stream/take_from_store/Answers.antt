use Rattle.std.proofs.Common.{◌≡◌, ap, ◌∙◌, arith}
use Rattle.std.specs.Prelude.{bit_xor}
use Rattle.std.specs.Simd.Lanes.{zip2}
use Rattle.crypto_spec.specs.Keystream.{keystream_part}
use Rattle.aes_ctr.specs.StreamState.{StreamState}
use Rattle.aes_ctr.proofs.Stores.{taken, left}
use Rattle.aes_ctr.proofs.stream.Stream.take_from_store.Goals as goal

pub invariant_of-self : goal.invariant_of-self
invariant_of-self c =
    let s = c.self.inside in
    let ready : s.ready ≡ c.args.self.now.ready = ap (λ (t : StreamState). t.ready) c.self.view_is in
    left s.keys s.position s.store s.used s.ready c.self.invariant (omega (arith, c.requires.enough, ready))

pub returns-clause-body : goal.returns-clause-body
returns-clause-body c =
    let s = c.self.inside in
    let ready : s.ready ≡ c.args.self.now.ready = ap (λ (t : StreamState). t.ready) c.self.view_is in
    c.xor.ensures
    ∙ ap (zip2 bit_xor c.args.body.now)
    (taken s.keys s.position s.store s.used s.ready c.self.invariant (omega (arith, c.requires.enough, ready))
    ∙ ap (λ (t : StreamState). keystream_part t.key t.position 509) c.self.view_is)
