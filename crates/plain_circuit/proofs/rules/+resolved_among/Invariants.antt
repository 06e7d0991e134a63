use Rattle.std.proofs.Common.{length}
use Rattle.plain_circuit.proofs.rules.+resolved_among.Given as goal

abbrev pub decreases-resolved_among : goal.decreases-resolved_among
decreases-resolved_among l = length l.lines.now
