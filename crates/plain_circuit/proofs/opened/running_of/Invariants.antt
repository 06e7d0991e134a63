use Rattle.std.proofs.Common.{take}
use Rattle.run_digest.specs.HashState.{HasAbsorbed}
use Rattle.plain_circuit.proofs.opened.running_of.Given as goal

abbrev pub invariant-loop-body : goal.invariant-loop-body
invariant-loop-body l = HasAbsorbed l.running l.seed (take l.body-index l.bodies)
