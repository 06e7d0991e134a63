use Rattle.std.proofs.Common.{◌≡◌, ◌≤◌, IfSome, length, option_map, take}
use Rattle.circuit_model.specs.Log.{newest}
use Rattle.circuit_model.specs.Extending.{accepted_request}
use Rattle.relay_cell.specs.Extend.{extend_of}
use Rattle.plain_circuit.specs.Values.{log_of}
use Rattle.plain_circuit.proofs.extending.linked_effects.Given as goal

abbrev pub invariant-loop-entry : goal.invariant-loop-entry
invariant-loop-entry l =
    (option_map extend_of l.last_request ≡ newest accepted_request (log_of (take l.entry-index l.log)))
    × IfSome l.last_request (λ request. length request.hdata.now ≤ 498)
