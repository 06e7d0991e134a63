use Rattle.std.proofs.Common.{length}
use Rattle.circ_relay.proofs.allowed_names.+resolved_among.Given as goal

abbrev pub decreases-resolved_among : goal.decreases-resolved_among
decreases-resolved_among l = length l.lines.now
