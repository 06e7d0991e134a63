use Rattle.std.proofs.Common.{length}
use Rattle.plain_circuit.proofs.places.+taken_among.Given as goal

abbrev pub decreases-taken_among : goal.decreases-taken_among
decreases-taken_among l = length l.places.now
