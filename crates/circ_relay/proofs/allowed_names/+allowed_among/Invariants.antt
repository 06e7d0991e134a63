use Rattle.std.proofs.Common.{length}
use Rattle.circ_relay.proofs.allowed_names.+allowed_among.Given as goal

abbrev pub decreases-allowed_among : goal.decreases-allowed_among
decreases-allowed_among l = length l.lines.now
