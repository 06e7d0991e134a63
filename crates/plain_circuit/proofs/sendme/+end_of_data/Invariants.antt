use Rattle.std.proofs.Common.{length}
use Rattle.plain_circuit.proofs.sendme.+end_of_data.Given as goal

abbrev pub decreases-end_of_data : goal.decreases-end_of_data
decreases-end_of_data l = length l.bodies.now
