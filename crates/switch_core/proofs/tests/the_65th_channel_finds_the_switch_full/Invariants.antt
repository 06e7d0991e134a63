use Rattle.std.proofs.Common.{◌≤◌}
use Rattle.switch_core.proofs.tests.the_65th_channel_finds_the_switch_full.Given as goal

abbrev pub invariant-loop-number : goal.invariant-loop-number
invariant-loop-number g l = l.switch.state.steps ≤ l.number
