use Rattle.std.proofs.Common.{ap, ◌∙◌}
use Rattle.crypto_spec.specs.Keystream.{keystream_part}
use Rattle.hop_crypto.specs.Ciphers.{key_of, position_of}
use Rattle.hop_crypto.specs.declared.parts.DoneParts.{DoneParts}
use Rattle.hop_crypto.proofs.job.Done.ahead.Goals as goal

pub returns-clause-next : goal.returns-clause-next
returns-clause-next c =
    c.ahead.ensures.next ∙ ap (λ (d : DoneParts). keystream_part (key_of d.end) (position_of d.end) 1024) c.self.view_is
