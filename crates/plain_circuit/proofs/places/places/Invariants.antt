use Rattle.std.proofs.Common.{◌≡◌, take}
use Rattle.circuit_model.specs.Places.{places}
use Rattle.plain_circuit.specs.Values.{log_of}
use Rattle.plain_circuit.proofs.places.places.Given as goal

abbrev pub invariant-loop-entry : goal.invariant-loop-entry
invariant-loop-entry l = l.places.items ≡ places (log_of (take l.entry-index l.log))
