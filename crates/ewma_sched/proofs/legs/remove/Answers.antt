use Rattle.std.proofs.Common.{sym, ◌∙◌}
use Rattle.ewma_sched.proofs.Cases.{if_some}
use Rattle.ewma_sched.proofs.Maps.{removed}
use Rattle.ewma_sched.proofs.legs.remove.Goals as goal

pub returns-clause-some : goal.returns-clause-some
returns-clause-some c =
    if_some c.remove.result (λ x is.
    removed c.args.legs.now.entries c.remove.new.self.entries c.args.name x (sym c.remove.ensures.value ∙ is)
    c.remove.ensures.updates.0 c.remove.ensures.entries)
