use Rattle.std.proofs.Common.{length}
use Rattle.plain_circuit.proofs.rules.+allowed_among.Given as goal

abbrev pub decreases-allowed_among : goal.decreases-allowed_among
decreases-allowed_among l = length l.lines.now
