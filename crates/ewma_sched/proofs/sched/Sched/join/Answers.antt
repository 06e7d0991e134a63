use Rattle.std.proofs.Common.{◌≡◌, ◌≤◌, ◌∙◌, ap, subst, arith}
use Rattle.ewma_sched.specs.Legs.{LegName, at_tick, with_leg, new_leg}
use Rattle.ewma_sched.specs.Tables.{states}
use Rattle.ewma_sched.proofs.Cases.{if_err}
use Rattle.ewma_sched.proofs.States.{same_states}
use Rattle.ewma_sched.proofs.Views.{states_tick, tick_of, joined_view, states_same, gone_itself}
use Rattle.ewma_sched.proofs.sched.Sched.join.Goals as goal

pub returns-in_err-reserve-clause-err : goal.returns-in_err-reserve-clause-err
returns-in_err-reserve-clause-err c =
    let t = c.self.inside.table in
    let e = c.in_err-reserve.ensures in
    if_err _
    (ap (states c.reserve.new.self.legs.entries) e.tick
    ∙ same_states t.legs.entries c.reserve.new.self.legs.entries t.tick e.legs.legs ∙ c.self.view_is)

pub put_in-requires-clause-tick : goal.put_in-requires-clause-tick
put_in-requires-clause-tick c =
    let t = c.self.inside.table in
    omega (
      arith,
      c.requires,
      tick_of t.legs.entries t.tick _ c.self.view_is,
      c.in_ok-reserve.ensures.tick,
      c.take_out-old_chan.ensures.tick,
    )

pub put_in-requires-clause-new : goal.put_in-requires-clause-new
put_in-requires-clause-new c =
    gone_itself c.reserve.new.self.legs.entries c.take_out-old_chan.new.self.legs.entries (c.args.circ.0, c.args.leg)
    c.take_out-old_chan.ensures.leg

pub put_in-requires-clause-room : goal.put_in-requires-clause-room
put_in-requires-clause-room c = c.take_out-old_chan.ensures.room c.args.chan.0 c.in_ok-reserve.ensures.room

pub put_in-requires-clause-spare : goal.put_in-requires-clause-spare
put_in-requires-clause-spare c = omega (arith, c.in_ok-reserve.ensures.spare, c.take_out-old_chan.ensures.spare)

pub returns-in-Some-clause-ok : goal.returns-in-Some-clause-ok
returns-in-Some-clause-ok c =
    let t = c.self.inside.table in
    let leg : LegName = (c.args.circ.0, c.args.leg) in
    let last = c.put_in.new.self in
    let le : t.tick ≤ c.args.tick = omega (arith, c.requires, tick_of t.legs.entries t.tick _ c.self.view_is) in
    let joins =
    joined_view t.legs.entries c.reserve.new.self.legs.entries c.take_out-old_chan.new.self.legs.entries last.legs.entries
    t.tick c.args.tick c.args.chan.0 leg le c.self.invariant.ticks c.in_ok-reserve.ensures.legs c.take_out-old_chan.ensures.leg
    c.put_in.ensures.leg in
    states_same last.legs.entries c.drop_if_empty.new.self.legs.entries c.args.tick c.drop_if_empty.new.self.tick
    (ap (λ m. m.entries) c.drop_if_empty.ensures.legs) (c.drop_if_empty.ensures.tick ∙ c.put_in.ensures.tick)
    ∙ subst (λ v. states last.legs.entries c.args.tick ≡ with_leg (at_tick v c.args.tick) leg (new_leg c.args.chan.0))
    c.self.view_is joins

pub returns-in_default-clause-ok : goal.returns-in_default-clause-ok
returns-in_default-clause-ok c =
    let t = c.self.inside.table in
    let leg : LegName = (c.args.circ.0, c.args.leg) in
    let last = c.put_in.new.self in
    let le : t.tick ≤ c.args.tick = omega (arith, c.requires, tick_of t.legs.entries t.tick _ c.self.view_is) in
    let joins =
    joined_view t.legs.entries c.reserve.new.self.legs.entries c.take_out-old_chan.new.self.legs.entries last.legs.entries
    t.tick c.args.tick c.args.chan.0 leg le c.self.invariant.ticks c.in_ok-reserve.ensures.legs c.take_out-old_chan.ensures.leg
    c.put_in.ensures.leg in
    ap (states last.legs.entries) c.put_in.ensures.tick
    ∙ subst (λ v. states last.legs.entries c.args.tick ≡ with_leg (at_tick v c.args.tick) leg (new_leg c.args.chan.0))
    c.self.view_is joins

pub returns-in-Some-clause-tick : goal.returns-in-Some-clause-tick
returns-in-Some-clause-tick c =
    let last = c.drop_if_empty.new.self in
    states_tick last.legs.entries last.tick ∙ c.drop_if_empty.ensures.tick ∙ c.put_in.ensures.tick

pub returns-in_default-clause-tick : goal.returns-in_default-clause-tick
returns-in_default-clause-tick c =
    let last = c.put_in.new.self in
    states_tick last.legs.entries last.tick ∙ c.put_in.ensures.tick
