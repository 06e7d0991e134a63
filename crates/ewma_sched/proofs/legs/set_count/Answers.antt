use Rattle.std.proofs.Common.{Some, sym}
use Rattle.ewma_sched.specs.declared.legs.CountedLeg.{CountedLeg}
use Rattle.ewma_sched.specs.Tables.{Changes}
use Rattle.ewma_sched.proofs.Cases.{match_some}
use Rattle.ewma_sched.proofs.Maps.{written}
use Rattle.ewma_sched.proofs.legs.set_count.Goals as goal

pub returns-in-Some : goal.returns-in-Some
returns-in-Some c =
    let legs = c.args.legs.now.entries in
    let leg = c.in-Some.leg.now in
    let counted : CountedLeg = record leg { count = c.args.count } in
    match_some _
    (λ x. Changes legs (c.get_mut.follows.lender counted).entries c.args.name (Some x) (Some (record x { count = c.args.count })))
    _ leg (sym c.in-Some.ensures.value)
    (written legs _ c.args.name leg counted (sym c.in-Some.ensures.value) (c.get_mut.follows.holds counted).0)
