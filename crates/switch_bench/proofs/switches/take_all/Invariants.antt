use Rattle.std.proofs.Common.{◌≤◌, ◌+◌}
use Rattle.switch_bench.proofs.switches.take_all.Given as goal

abbrev pub invariant-loop-brought : goal.invariant-loop-brought
invariant-loop-brought l = l.switch.state.steps ≤ l.initial.switch.state.steps + l.brought-index
