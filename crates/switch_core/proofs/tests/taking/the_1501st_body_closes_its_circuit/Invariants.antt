use Rattle.std.proofs.Common.{◌≤◌, ◌+◌}
use Rattle.switch_core.proofs.tests.taking.the_1501st_body_closes_its_circuit.Given as goal

abbrev pub invariant-loop-body : goal.invariant-loop-body
invariant-loop-body g l = l.switch.state.steps ≤ 3 + l.body
