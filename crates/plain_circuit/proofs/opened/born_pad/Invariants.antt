use Rattle.std.proofs.Common.{◌≡◌, take}
use Rattle.circuit_model.specs.Opened.{born_pad}
use Rattle.plain_circuit.specs.Values.{log_of}
use Rattle.plain_circuit.proofs.opened.born_pad.Given as goal

abbrev pub invariant-loop-entry : goal.invariant-loop-entry
invariant-loop-entry l = l.pad ≡ born_pad (log_of (take l.entry-index l.log))
