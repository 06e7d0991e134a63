use Rattle.std.proofs.Common.{◌≡◌, ◌≤◌, take}
use Rattle.circuit_model.specs.Windows.{drained_count}
use Rattle.plain_circuit.specs.Values.{log_of}
use Rattle.plain_circuit.proofs.windows.drained_count.Given as goal

abbrev pub invariant-loop-entry : goal.invariant-loop-entry
invariant-loop-entry l = (l.count ≡ drained_count (log_of (take l.entry-index l.log)) l.serial) × (l.count ≤ l.entry-index)
