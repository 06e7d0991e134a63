use Rattle.std.proofs.Common.{◌≡◌, ◌≤◌, take}
use Rattle.circuit_model.specs.Windows.{circuit_packaged}
use Rattle.plain_circuit.specs.Values.{log_of}
use Rattle.plain_circuit.proofs.windows.packed.Given as goal

abbrev pub invariant-loop-entry : goal.invariant-loop-entry
invariant-loop-entry l = (l.count ≡ circuit_packaged (log_of (take l.entry-index l.log))) × (l.count ≤ l.entry-index)
