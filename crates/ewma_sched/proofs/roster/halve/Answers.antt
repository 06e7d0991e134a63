use Rattle.std.proofs.Common.{◌<◌, ◌∙◌, arith, ap, get_or, set, length}
use Rattle.std.proofs.lemmas.List.{get_or_default}
use Rattle.std.proofs.lemmas.List.Edits.{map_over_more}
use Rattle.ewma_sched.specs.declared.roster.ReadyLeg.{ReadyLeg}
use Rattle.ewma_sched.specs.Order.{halved_ready_leg}
use Rattle.ewma_sched.proofs.roster.halve.Goals as goal

pub loop-leg-preserved : goal.loop-leg-preserved
loop-leg-preserved c =
    let legs = c.loop-leg.legs in
    let i = c.loop-leg.leg-index in
    let none : ReadyLeg = record { count = 0; circ = 0; number = 0 } in
    let leg = get_or legs i none in
    let within : i < length legs = omega arith in
    ap (λ n. set legs i (record leg { count = n })) c.halved-leg.ensures
    ∙ map_over_more (halved_ready_leg c.args.ticks) c.args.legs.now legs i leg (omega arith) c.loop-leg.invariant
    (get_or_default legs i none leg within)
