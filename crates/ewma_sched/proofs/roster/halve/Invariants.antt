use Rattle.std.proofs.Common.{◌≡◌, ◌++◌, map, take, drop}
use Rattle.ewma_sched.specs.Order.{halved_ready_leg}
use Rattle.ewma_sched.proofs.roster.halve.Given as goal

abbrev pub invariant-loop-leg : goal.invariant-loop-leg
invariant-loop-leg l =
    l.legs ≡ map (halved_ready_leg l.ticks) (take l.leg-index l.initial.legs) ++ drop l.leg-index l.initial.legs
