use Rattle.std.proofs.Common.{◌≤◌, ◌+◌}
use Rattle.switch_core.proofs.tests.claims.a_claim_takes_32_bodies_of_40.Given as goal

abbrev pub invariant-loop-number : goal.invariant-loop-number
invariant-loop-number g l = l.switch.state.steps ≤ 3 + l.number
