use Rattle.std.proofs.Common.{◌≤◌, ◌+◌, ◌*◌}
use Rattle.switch_bench.proofs.switches.back.Given as goal

-- a cell taken, two claims and returns, and up to 32 cells that leave
abbrev pub invariant-loop-brought : goal.invariant-loop-brought
invariant-loop-brought g l = l.switch.state.steps ≤ l.initial.switch.state.steps + 37 * l.brought-index
