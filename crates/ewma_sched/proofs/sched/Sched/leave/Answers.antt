use Rattle.std.proofs.Common.{◌≡◌, ◌∙◌, ap, subst}
use Rattle.ewma_sched.specs.Legs.{LegName, without_leg}
use Rattle.ewma_sched.specs.Tables.{states}
use Rattle.ewma_sched.proofs.Views.{tick_of, states_tick, left_view, states_same}
use Rattle.ewma_sched.proofs.sched.Sched.leave.Goals as goal

pub returns-in-Some-clause-legs : goal.returns-in-Some-clause-legs
returns-in-Some-clause-legs c =
    let t = c.self.inside.table in
    let leg : LegName = (c.args.circ.0, c.args.leg) in
    let last = c.drop_if_empty.new.self in
    let gone = c.take_out.new.self in
    states_same gone.legs.entries last.legs.entries t.tick last.tick (ap (λ m. m.entries) c.drop_if_empty.ensures.legs)
    (c.drop_if_empty.ensures.tick ∙ c.take_out.ensures.tick)
    ∙ subst (λ v. states gone.legs.entries t.tick ≡ without_leg v leg) c.self.view_is
    (left_view t.legs.entries gone.legs.entries t.tick leg c.take_out.ensures.leg)

pub returns-in_default-clause-legs : goal.returns-in_default-clause-legs
returns-in_default-clause-legs c =
    let t = c.self.inside.table in
    let leg : LegName = (c.args.circ.0, c.args.leg) in
    let gone = c.take_out.new.self in
    ap (states gone.legs.entries) c.take_out.ensures.tick
    ∙ subst (λ v. states gone.legs.entries t.tick ≡ without_leg v leg) c.self.view_is
    (left_view t.legs.entries gone.legs.entries t.tick leg c.take_out.ensures.leg)

pub returns-in-Some-clause-tick : goal.returns-in-Some-clause-tick
returns-in-Some-clause-tick c =
    let t = c.self.inside.table in
    let last = c.drop_if_empty.new.self in
    states_tick last.legs.entries last.tick ∙ c.drop_if_empty.ensures.tick ∙ c.take_out.ensures.tick
    ∙ tick_of t.legs.entries t.tick _ c.self.view_is

pub returns-in_default-clause-tick : goal.returns-in_default-clause-tick
returns-in_default-clause-tick c =
    let t = c.self.inside.table in
    let last = c.take_out.new.self in
    states_tick last.legs.entries last.tick ∙ c.take_out.ensures.tick ∙ tick_of t.legs.entries t.tick _ c.self.view_is
