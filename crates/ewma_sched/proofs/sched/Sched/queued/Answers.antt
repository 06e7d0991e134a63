use Rattle.std.proofs.Common.{◌≡◌, ◌∙◌, ap, subst}
use Rattle.ewma_sched.specs.Legs.{LegName, with_leg_by, queued_leg}
use Rattle.ewma_sched.specs.Tables.{states}
use Rattle.ewma_sched.proofs.Views.{tick_of, states_tick, queued_view}
use Rattle.ewma_sched.proofs.sched.Sched.queued.Goals as goal

pub returns-clause-legs : goal.returns-clause-legs
returns-clause-legs c =
    let t = c.self.inside.table in
    let leg : LegName = (c.args.circ.0, c.args.leg) in
    let last = c.queued.new.self in
    ap (states last.legs.entries) c.queued.ensures.tick
    ∙ subst (λ v. states last.legs.entries t.tick ≡ with_leg_by (queued_leg c.args.some) v leg) c.self.view_is
    (queued_view t.legs.entries last.legs.entries t.tick leg c.args.some c.queued.ensures.leg)

pub returns-clause-tick : goal.returns-clause-tick
returns-clause-tick c =
    let t = c.self.inside.table in
    let last = c.queued.new.self in
    states_tick last.legs.entries last.tick ∙ c.queued.ensures.tick ∙ tick_of t.legs.entries t.tick _ c.self.view_is
