use Rattle.std.proofs.Common.{◌≡◌, take}
use Rattle.circuit_model.specs.Log.{is_closed}
use Rattle.plain_circuit.specs.Values.{log_of}
use Rattle.plain_circuit.proofs.received.is_closed.Given as goal

abbrev pub invariant-loop-entry : goal.invariant-loop-entry
invariant-loop-entry l = l.has_close ≡ is_closed (log_of (take l.entry-index l.log))
