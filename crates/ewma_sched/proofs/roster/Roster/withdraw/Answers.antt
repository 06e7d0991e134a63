use Rattle.std.proofs.Common.{◌<◌, sym, subst, ◌∷◌}
use Rattle.std.proofs.lemmas.List.Sorted.{IsPermutation-remove}
use Rattle.std.specs.List.Sorted.{IsPermutation}
use Rattle.ewma_sched.specs.Order.{IsInOrder}
use Rattle.ewma_sched.proofs.Cases.{some_only}
use Rattle.ewma_sched.proofs.InOrder.{remove_in_order, found, not_missed}
use Rattle.ewma_sched.proofs.roster.Roster.withdraw.Goals as goal

pub returns-clause-legs : goal.returns-clause-legs
returns-clause-legs c =
    let w = c.args.self.now.ready_queue in
    let leg = c.args.leg.now in
    let place = c.in-Ok.place in
    let removed = some_only c.remove.result c.remove.ensures.items (c.remove.ensures.variant.1 c.in-Ok.ensures.bound) in
    subst (λ l. IsPermutation w.items (leg ∷ l)) (sym removed)
    (IsPermutation-remove w.items place leg (subst (λ n. place < n) w.ok.0 c.in-Ok.ensures.bound)
    (found w.items leg place leg c.in-Ok.ensures.ok))

pub returns-clause-order : goal.returns-clause-order
returns-clause-order c =
    let w = c.args.self.now.ready_queue in
    let place = c.in-Ok.place in
    let removed = some_only c.remove.result c.remove.ensures.items (c.remove.ensures.variant.1 c.in-Ok.ensures.bound) in
    subst IsInOrder (sym removed)
    (remove_in_order w.items place c.requires.order (subst (λ n. place < n) w.ok.0 c.in-Ok.ensures.bound))

pub unreachable-requires : goal.unreachable-requires
unreachable-requires c =
    not_missed c.args.self.now.ready_queue.items c.args.leg.now c.in-Err.field-0 c.requires.order c.requires.waits
    c.in-Err.ensures.position
