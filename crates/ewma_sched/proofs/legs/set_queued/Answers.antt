use Rattle.std.proofs.Common.{sym}
use Rattle.ewma_sched.specs.declared.legs.CountedLeg.{CountedLeg}
use Rattle.ewma_sched.proofs.Maps.{written, written_same}
use Rattle.ewma_sched.proofs.legs.set_queued.Goals as goal

pub returns-then-leg-some-clause-none : goal.returns-then-leg-some-clause-none
returns-then-leg-some-clause-none c =
    let leg = c.in_ok-leg.leg.now in
    written_same c.args.legs.now.entries _ c.args.name leg (sym c.in_ok-leg.ensures.value) (c.get_mut.follows.holds leg).0

pub returns-clause-some : goal.returns-clause-some
returns-clause-some c =
    let leg = c.in_ok-leg.leg.now in
    let noted : CountedLeg = record leg { has_cells = c.args.some } in
    written c.args.legs.now.entries _ c.args.name leg noted (sym c.in_ok-leg.ensures.value) (c.get_mut.follows.holds noted).0
