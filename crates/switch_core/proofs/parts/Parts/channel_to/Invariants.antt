use Rattle.std.proofs.Common.{◌≡◌, None}
use Rattle.switch_machine.specs.Calls.DialOrder.{dialled_below}
use Rattle.switch_core.proofs.parts.Parts.channel_to.Given as goal

abbrev pub invariant-loop-number : goal.invariant-loop-number
invariant-loop-number l = dialled_below l.self.channels l.to l.number ≡ None
