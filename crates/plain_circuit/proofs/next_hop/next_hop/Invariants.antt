use Rattle.std.proofs.Common.{◌≡◌, take}
use Rattle.circuit_model.specs.NextHop.{next_hop}
use Rattle.plain_circuit.specs.Values.{log_of}
use Rattle.plain_circuit.proofs.next_hop.next_hop.Given as goal

abbrev pub invariant-loop-entry : goal.invariant-loop-entry
invariant-loop-entry l = l.hop ≡ next_hop (log_of (take l.entry-index l.log))
