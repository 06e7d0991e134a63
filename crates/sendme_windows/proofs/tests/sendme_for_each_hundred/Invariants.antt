use Rattle.std.proofs.Common.{◌≤◌}
use Rattle.sendme_windows.proofs.tests.sendme_for_each_hundred.Given as goal

abbrev pub invariant-loop-number : goal.invariant-loop-number
invariant-loop-number g l = l.windows.calls ≤ l.number-counter
