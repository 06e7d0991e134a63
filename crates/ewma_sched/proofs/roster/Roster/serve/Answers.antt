use Rattle.std.proofs.Common.{subst}
use Rattle.ewma_sched.specs.Order.{IsInOrder}
use Rattle.ewma_sched.proofs.InOrder.{rest_in_order}
use Rattle.ewma_sched.proofs.roster.Roster.serve.Goals as goal

pub enter-requires-clause-order : goal.enter-requires-clause-order
enter-requires-clause-order c = rest_in_order c.in_ok-first.first _ (subst IsInOrder c.in_ok-first.ensures.items c.requires)
