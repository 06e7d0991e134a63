use Rattle.std.proofs.Common.{length}
use Rattle.plain_circuit.proofs.places.+live_among.Given as goal

abbrev pub decreases-live_among : goal.decreases-live_among
decreases-live_among l = length l.places.now
