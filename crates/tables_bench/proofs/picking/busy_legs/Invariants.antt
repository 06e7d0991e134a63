use Rattle.std.proofs.Common.{◌≡◌}
use Rattle.tables_bench.proofs.picking.busy_legs.Given as goal

abbrev pub invariant-loop-leg : goal.invariant-loop-leg
invariant-loop-leg l = l.sched.tick ≡ 0
