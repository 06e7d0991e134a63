use Rattle.std.proofs.Common.{◌≤◌, ◌+◌}
use Rattle.switch_bench.proofs.switches.leave.Given as goal

abbrev pub invariant-loop-cell : goal.invariant-loop-cell
invariant-loop-cell l = l.switch.state.steps ≤ l.initial.switch.state.steps + l._cell
