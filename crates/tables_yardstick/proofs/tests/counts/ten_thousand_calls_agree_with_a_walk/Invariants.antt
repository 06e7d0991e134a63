use Rattle.std.proofs.Common.{◌≤◌}
use Rattle.tables_yardstick.proofs.tests.counts.ten_thousand_calls_agree_with_a_walk.Given as goal

abbrev pub invariant-loop-call : goal.invariant-loop-call
invariant-loop-call g l = l.sched.tick ≤ l.tick
