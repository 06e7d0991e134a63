use Rattle.ewma_sched.proofs.Views.{no_legs}
use Rattle.ewma_sched.proofs.sched.Sched.new.Goals as goal

pub returns : goal.returns
returns c = no_legs c.new.result.legs.entries c.new.result.tick c.new.ensures.legs c.new.ensures.tick
