use Rattle.onion_client.proofs.Peeling.{AreOff}
use Rattle.onion_client.proofs.layers.take_off_until.Given as goal

abbrev pub invariant-loop-i : goal.invariant-loop-i
invariant-loop-i l = AreOff l.fn.hops l.hops l.fn.body l.body l.i
