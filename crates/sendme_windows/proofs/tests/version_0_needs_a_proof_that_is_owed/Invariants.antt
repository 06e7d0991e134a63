use Rattle.std.proofs.Common.{◌≤◌, ◌+◌}
use Rattle.sendme_windows.proofs.tests.version_0_needs_a_proof_that_is_owed.Given as goal

abbrev pub invariant-loop : goal.invariant-loop
invariant-loop g l = l.windows.calls ≤ l.counter + 1
