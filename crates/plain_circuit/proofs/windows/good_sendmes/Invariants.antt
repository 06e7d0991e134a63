use Rattle.std.proofs.Common.{◌≡◌, ◌≤◌, take}
use Rattle.circuit_model.specs.Windows.{good_sendmes}
use Rattle.plain_circuit.specs.Values.{log_of}
use Rattle.plain_circuit.proofs.windows.good_sendmes.Given as goal

abbrev pub invariant-loop-entry : goal.invariant-loop-entry
invariant-loop-entry l = (l.count ≡ good_sendmes (log_of (take l.entry-index l.log))) × (l.count ≤ l.entry-index)
