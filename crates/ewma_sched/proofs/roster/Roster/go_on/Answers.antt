use Rattle.std.proofs.Common.{arith, sym, subst, ◌≡◌, ◌-◌}
use Rattle.std.proofs.lemmas.List.Sorted.{IsPermutation-refl}
use Rattle.std.specs.List.Sorted.{IsPermutation}
use Rattle.ewma_sched.specs.Order.{IsInOrder}
use Rattle.ewma_sched.proofs.Halving.{legs_halved_none}
use Rattle.ewma_sched.proofs.InOrder.{in_order_from_sorted}
use Rattle.ewma_sched.proofs.roster.Roster.go_on.Goals as goal

pub returns-then-self-tick-clause-order : goal.returns-then-self-tick-clause-order
returns-then-self-tick-clause-order c =
    let sorted = c.sort_unstable.new.self in
    let back = c.make_contiguous-then-self-tick.ensures.writes_back sorted (omega arith) in
    subst IsInOrder (sym back) (in_order_from_sorted sorted c.sort_unstable.ensures.sorted)

pub returns-else-self-tick-clause-legs : goal.returns-else-self-tick-clause-legs
returns-else-self-tick-clause-legs c =
    let legs = c.args.self.now.ready_queue.items in
    let none : c.args.tick - c.args.self.now.tick ≡ 0 = omega arith in
    subst (λ l. IsPermutation l legs) (sym (legs_halved_none _ none legs)) (IsPermutation-refl legs)
