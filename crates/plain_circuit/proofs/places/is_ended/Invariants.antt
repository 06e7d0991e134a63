use Rattle.std.proofs.Common.{◌≡◌, take}
use Rattle.circuit_model.specs.Places.{is_ended}
use Rattle.plain_circuit.specs.Values.{log_of}
use Rattle.plain_circuit.proofs.places.is_ended.Given as goal

abbrev pub invariant-loop-entry : goal.invariant-loop-entry
invariant-loop-entry l = l.has_close ≡ is_ended (log_of (take l.entry-index l.log)) l.serial
