use Rattle.std.proofs.Common.{◌≤◌, ◌+◌}
use Rattle.sendme_windows.proofs.tests.window_of_a_thousand.Given as goal

abbrev pub invariant-loop-number : goal.invariant-loop-number
invariant-loop-number g l = l.windows.calls ≤ l.number + 1
