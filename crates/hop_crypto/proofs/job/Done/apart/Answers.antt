use Rattle.std.proofs.Common.{ap, ◌∙◌}
use Rattle.hop_crypto.specs.Ciphers.{position_of}
use Rattle.hop_crypto.proofs.Working.{IsWorked-many, IsWorked-position}
use Rattle.hop_crypto.proofs.job.Done.apart.Goals as goal

pub returns-clause-many : goal.returns-clause-many
returns-clause-many c =
    let done = c.self.inside in
    IsWorked-many done.start done.end done.input.items done.output.items c.self.invariant.layer c.self.invariant.worked

pub returns-clause-position : goal.returns-clause-position
returns-clause-position c =
    let done = c.self.inside in
    ap position_of c.cipher.ensures
    ∙ IsWorked-position done.start done.end done.input.items done.output.items c.self.invariant.layer c.self.invariant.worked
