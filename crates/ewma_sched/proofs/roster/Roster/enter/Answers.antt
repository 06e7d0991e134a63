use Rattle.std.proofs.Common.{◌≤◌, arith, subst, sym, ◌∷◌}
use Rattle.std.proofs.lemmas.List.Sorted.{IsPermutation-insert}
use Rattle.std.specs.List.Sorted.{IsPermutation}
use Rattle.ewma_sched.specs.Order.{IsInOrder}
use Rattle.ewma_sched.proofs.Cases.{ok_only}
use Rattle.ewma_sched.proofs.InOrder.{insert_in_order}
use Rattle.ewma_sched.proofs.roster.Roster.enter.Goals as goal

pub returns-clause-legs : goal.returns-clause-legs
returns-clause-legs c =
    let legs = c.args.self.now.ready_queue.items in
    let place = c.place_of-place.result in
    let inserted = ok_only c.insert.result c.insert.ensures.items c.insert.ensures.full (λ full. omega arith) in
    subst (IsPermutation (c.args.leg ∷ legs)) (sym inserted) (IsPermutation-insert legs place c.args.leg)

pub returns-clause-order : goal.returns-clause-order
returns-clause-order c =
    let w = c.args.self.now.ready_queue in
    let place = c.place_of-place.result in
    let inserted = ok_only c.insert.result c.insert.ensures.items c.insert.ensures.full (λ full. omega arith) in
    subst IsInOrder (sym inserted)
    (insert_in_order w.items c.args.leg place c.requires.order
    (subst (λ n. place ≤ n) w.ok.0 c.place_of-place.ensures.within)
    c.place_of-place.ensures.behind c.place_of-place.ensures.ahead)
