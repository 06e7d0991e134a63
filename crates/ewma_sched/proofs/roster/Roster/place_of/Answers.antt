use Rattle.std.specs.Ordering.{is_lt}
use Rattle.std.proofs.Common.{sym, ap, ◌∙◌, arith, subst, ◌<◌}
use Rattle.ewma_sched.proofs.InOrder.{behind_last, ahead_first, behind_equal, ahead_equal, behind_gap, ahead_gap, gap}
use Rattle.ewma_sched.proofs.roster.Roster.place_of.Goals as goal

pub returns-clause-behind : goal.returns-clause-behind
returns-clause-behind c = λ k d h.
    let w = c.args.self.now.ready_queue in
    behind_last w.items _ c.args.leg.now c.in-Some.last.now c.requires w.ok.0 c.in-Some.ensures.lookup
    (sym (c.is_lt.ensures ∙ ap is_lt c.cmp.ensures) ∙ c.if-is_lt.true) k d (omega arith)

pub returns-2-clause-ahead : goal.returns-2-clause-ahead
returns-2-clause-ahead c = λ k d low h.
    ahead_first _ c.args.leg.now c.in-Some-front.first.now c.requires c.in-Some-front.ensures.lookup
    (sym (c.is_lt-2.ensures ∙ ap is_lt c.cmp-2.ensures) ∙ c.if-is_lt-2.true) k d h

pub returns-in-Ok-clause-behind : goal.returns-in-Ok-clause-behind
returns-in-Ok-clause-behind c =
    let w = c.args.self.now.ready_queue in
    behind_equal w.items c.args.leg.now c.in-Ok.place c.requires (subst (λ n. c.in-Ok.place < n) w.ok.0 c.in-Ok.ensures.bound)
    c.in-Ok.ensures.ok

pub returns-in-Ok-clause-ahead : goal.returns-in-Ok-clause-ahead
returns-in-Ok-clause-ahead c =
    ahead_equal c.args.self.now.ready_queue.items c.args.leg.now c.in-Ok.place c.requires c.in-Ok.ensures.ok

pub returns-in-Err-clause-behind : goal.returns-in-Err-clause-behind
returns-in-Err-clause-behind c =
    let legs = c.args.self.now.ready_queue.items in
    let leg = c.args.leg.now in
    behind_gap legs leg c.in-Err.place (gap legs leg c.in-Err.place c.requires c.in-Err.ensures.position).0

pub returns-in-Err-clause-ahead : goal.returns-in-Err-clause-ahead
returns-in-Err-clause-ahead c =
    let legs = c.args.self.now.ready_queue.items in
    let leg = c.args.leg.now in
    ahead_gap legs leg c.in-Err.place (gap legs leg c.in-Err.place c.requires c.in-Err.ensures.position).1
