use Rattle.std.proofs.Common.{◌≡◌, take}
use Rattle.circuit_model.specs.Opened.{born_keys}
use Rattle.plain_circuit.specs.Values.{log_of}
use Rattle.plain_circuit.proofs.opened.born_keys.Given as goal

abbrev pub invariant-loop-entry : goal.invariant-loop-entry
invariant-loop-entry l = l.keys ≡ born_keys (log_of (take l.entry-index l.log))
