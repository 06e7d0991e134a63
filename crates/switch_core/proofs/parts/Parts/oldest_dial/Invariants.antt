use Rattle.std.proofs.Common.{◌≡◌, option_map}
use Rattle.switch_machine.specs.Calls.DialOrder.{oldest_below}
use Rattle.switch_core.specs.Dialling.{open_of}
use Rattle.switch_core.proofs.parts.Parts.oldest_dial.Given as goal

abbrev pub invariant-loop-number : goal.invariant-loop-number
invariant-loop-number l = option_map open_of l.best ≡ oldest_below l.self l.number
