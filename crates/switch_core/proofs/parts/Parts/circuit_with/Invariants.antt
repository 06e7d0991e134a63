use Rattle.std.proofs.Common.{◌≡◌, None}
use Rattle.switch_machine.specs.Calls.Take.{leg_before}
use Rattle.switch_core.proofs.parts.Parts.circuit_with.Given as goal

abbrev pub invariant-loop-number : goal.invariant-loop-number
invariant-loop-number l = leg_before l.self l.chan.0 l.id l.number ≡ None
