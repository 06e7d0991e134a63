use Rattle.std.proofs.Common.{◌≡◌, take}
use Rattle.circuit_model.specs.Opened.{recognised_bodies}
use Rattle.plain_circuit.specs.Reading.{IsReader}
use Rattle.plain_circuit.specs.Values.{log_of}
use Rattle.plain_circuit.proofs.opened.recognised_bodies.Given as goal

abbrev pub invariant-loop-i : goal.invariant-loop-i
invariant-loop-i l =
    (l.bodies.items ≡ recognised_bodies (log_of (take l.i l.log)))
    × IsReader l.reader.stream l.reader.running (log_of (take l.i l.log))
