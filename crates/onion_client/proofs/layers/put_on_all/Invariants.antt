use Rattle.onion_client.proofs.Layering.{AreOn}
use Rattle.onion_client.proofs.layers.put_on_all.Given as goal

abbrev pub invariant-loop-i : goal.invariant-loop-i
invariant-loop-i l = AreOn l.fn.hops l.hops l.fn.body l.body l.i

abbrev pub decreases-loop-i : goal.decreases-loop-i
decreases-loop-i l = l.i
