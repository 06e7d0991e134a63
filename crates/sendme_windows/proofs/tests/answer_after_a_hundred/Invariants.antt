use Rattle.std.proofs.Common.{◌≤◌}
use Rattle.sendme_windows.proofs.tests.answer_after_a_hundred.Given as goal

abbrev pub invariant-loop : goal.invariant-loop
invariant-loop l = l.windows.calls ≤ l.counter
