use Rattle.std.proofs.Common.{length, ap, ◌∙◌}
use Rattle.hop_crypto.proofs.Ahead.{ahead_is, ahead_long}
use Rattle.hop_crypto.proofs.ready.ReadyCipher.ahead.Goals as goal

pub returns-clause-next : goal.returns-clause-next
returns-clause-next c =
    c.ready.ensures.next
    ∙ ahead_is c.self.inside.stream c.self.inside.direction c.args.self.now 1024 c.self.invariant.0 c.self.view_is

pub returns-clause-long : goal.returns-clause-long
returns-clause-long c = ap length c.ready.ensures.next ∙ ahead_long c.self.inside.stream 1024 c.self.invariant.0
