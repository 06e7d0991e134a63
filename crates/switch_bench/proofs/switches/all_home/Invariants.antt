use Rattle.std.proofs.Common.{◌≤◌, ◌+◌, ◌*◌}
use Rattle.switch_bench.proofs.switches.all_home.Given as goal

abbrev pub invariant-loop-claim : goal.invariant-loop-claim
invariant-loop-claim l = l.switch.state.steps ≤ l.initial.switch.state.steps + 2 * l._claim
