use Rattle.std.proofs.Common.{◌≡◌, take}
use Rattle.circuit_model.specs.Words.{in_order, log}
use Rattle.plain_circuit.specs.Values.{log_of, rules_of}
use Rattle.plain_circuit.proofs.relay.log_of.Given as goal

abbrev pub invariant-loop-event : goal.invariant-loop-event
invariant-loop-event l = log_of l.log.items ≡ log (rules_of l.rules) (in_order (take l.event-index l.history))
