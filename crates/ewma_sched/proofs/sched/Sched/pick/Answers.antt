use Rattle.std.proofs.Common.{◌≡◌, ◌≤◌, ◌∙◌, ap, subst, arith}
use Rattle.ewma_sched.specs.Legs.{at_tick, with_leg_by, charged_leg, IsNext, NoneWaits}
use Rattle.ewma_sched.specs.Tables.{states}
use Rattle.ewma_sched.proofs.Cases.{if_none}
use Rattle.ewma_sched.proofs.Views.{states_tick, tick_of, charged_view, next_view, none_view, same_view}
use Rattle.ewma_sched.proofs.sched.Sched.pick.Goals as goal

pub pick-requires-clause-tick : goal.pick-requires-clause-tick
pick-requires-clause-tick c =
    let t = c.self.inside.table in
    omega (arith, c.requires, tick_of t.legs.entries t.tick _ c.self.view_is)

pub returns-in_err-next-clause-none : goal.returns-in_err-next-clause-none
returns-in_err-next-clause-none c =
    let t = c.self.inside.table in
    if_none _
    (subst (λ v. NoneWaits v c.args.chan.0) c.self.view_is
    (none_view t.legs.entries t.tick c.args.chan.0 c.in_err-next.ensures.none))

pub returns-in_err-next-clause-ticked : goal.returns-in_err-next-clause-ticked
returns-in_err-next-clause-ticked c =
    let t = c.self.inside.table in
    let last = c.pick.new.self in
    let le : t.tick ≤ c.args.tick = omega (arith, c.requires, tick_of t.legs.entries t.tick _ c.self.view_is) in
    if_none _
    (ap (states last.legs.entries) c.pick.ensures.tick
    ∙ subst (λ v. states last.legs.entries c.args.tick ≡ at_tick v c.args.tick) c.self.view_is
    (same_view t.legs.entries t.tick c.args.tick le c.self.invariant.ticks last.legs.entries c.in_err-next.ensures.same))

pub returns-clause-some : goal.returns-clause-some
returns-clause-some c =
    let t = c.self.inside.table in
    let w = c.in_ok-next.next in
    let le : t.tick ≤ c.args.tick = omega (arith, c.requires, tick_of t.legs.entries t.tick _ c.self.view_is) in
    subst (λ v. IsNext (at_tick v c.args.tick) c.args.chan.0 (w.circ, w.number)) c.self.view_is
    (next_view t.legs.entries t.tick c.args.tick le c.self.invariant.ticks c.args.chan.0 (w.circ, w.number)
    c.in_ok-next.ensures.first)

pub returns-clause-charged : goal.returns-clause-charged
returns-clause-charged c =
    let t = c.self.inside.table in
    let w = c.in_ok-next.next in
    let last = c.pick.new.self in
    let le : t.tick ≤ c.args.tick = omega (arith, c.requires, tick_of t.legs.entries t.tick _ c.self.view_is) in
    ap (states last.legs.entries) c.pick.ensures.tick
    ∙ subst (λ v. states last.legs.entries c.args.tick ≡ with_leg_by charged_leg (at_tick v c.args.tick) (w.circ, w.number))
    c.self.view_is
    (charged_view t.legs.entries t.tick c.args.tick le c.self.invariant.ticks last.legs.entries (w.circ, w.number)
    c.in_ok-next.ensures.charged)

pub returns-in_err-next-clause-tick : goal.returns-in_err-next-clause-tick
returns-in_err-next-clause-tick c =
    let last = c.pick.new.self in
    states_tick last.legs.entries last.tick ∙ c.pick.ensures.tick

pub returns-clause-tick : goal.returns-clause-tick
returns-clause-tick c =
    let last = c.pick.new.self in
    states_tick last.legs.entries last.tick ∙ c.pick.ensures.tick
