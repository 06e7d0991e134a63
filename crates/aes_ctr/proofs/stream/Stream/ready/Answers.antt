use Rattle.std.proofs.Common.{ap, ◌∙◌}
use Rattle.crypto_spec.specs.Keystream.{keystream_part}
use Rattle.aes_ctr.specs.StreamState.{StreamState}
use Rattle.aes_ctr.proofs.Stores.{all_ready}
use Rattle.aes_ctr.proofs.stream.Stream.ready.Goals as goal

pub returns-clause-next : goal.returns-clause-next
returns-clause-next c =
    let s = c.self.inside in
    all_ready s.keys s.position s.store s.used s.ready c.self.invariant
    ∙ ap (λ (t : StreamState). keystream_part t.key t.position t.ready) c.self.view_is
