use Rattle.std.proofs.Common.{◌≤◌, ◌+◌, ◌*◌}
use Rattle.switch_bench.proofs.switches.forth.Given as goal

-- a cell taken, a claim and a return
abbrev pub invariant-loop-brought : goal.invariant-loop-brought
invariant-loop-brought l = l.switch.state.steps ≤ l.initial.switch.state.steps + 3 * l.brought-index
