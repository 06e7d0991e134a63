use Rattle.std.proofs.Common.{◌≤◌}
use Rattle.tables_bench.proofs.picking.time_picks.Given as goal

abbrev pub invariant-loop-round : goal.invariant-loop-round
invariant-loop-round g l = l.sched.tick ≤ l.round

abbrev pub invariant-loop-leg : goal.invariant-loop-leg
invariant-loop-leg g l = l.sched.tick ≤ l.round
