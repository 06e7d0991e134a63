use Rattle.std.proofs.Common.{◌≡◌, take}
use Rattle.circuit_model.specs.Packaged.{own_bodies}
use Rattle.plain_circuit.specs.Values.{log_of}
use Rattle.plain_circuit.proofs.packaged.own_bodies.Given as goal

abbrev pub invariant-loop-entry : goal.invariant-loop-entry
invariant-loop-entry l = l.bodies.items ≡ own_bodies (log_of (take l.entry-index l.log))
