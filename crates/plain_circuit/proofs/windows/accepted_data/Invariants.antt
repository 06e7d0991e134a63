use Rattle.std.proofs.Common.{◌≡◌, ◌≤◌, take}
use Rattle.circuit_model.specs.Windows.{accepted_data}
use Rattle.plain_circuit.specs.Values.{log_of}
use Rattle.plain_circuit.proofs.windows.accepted_data.Given as goal

abbrev pub invariant-loop-entry : goal.invariant-loop-entry
invariant-loop-entry l = (l.count ≡ accepted_data (log_of (take l.entry-index l.log))) × (l.count ≤ l.entry-index)
