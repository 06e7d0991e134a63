use Rattle.std.proofs.Common.{sym, ap, ◌∙◌}
use Rattle.std.specs.FinMap.{from_entries}
use Rattle.hashed_maps.proofs.Keys.{pair_keys}
use Rattle.out_lanes.proofs.Changes.{first_taken}
use Rattle.out_lanes.proofs.Calls.{takes_first, takes_first-none, none_at}
use Rattle.out_lanes.proofs.WellFormed.{are-written, each-taken, first_formed}
use Rattle.out_lanes.proofs.queues.Queues.pop.Goals as goal

pub returns-in_default-clause-first : goal.returns-in_default-clause-first
returns-in_default-clause-first c =
    takes_first-none (ap (λ m. from_entries m.entries) c.get_mut.follows.holds-at-none ∙ c.self.view_is)
    (none_at pair_keys c.self.inside.queues c.args.leg c.self.view_is c.in_default.ensures.value)

pub returns-clause-first : goal.returns-clause-first
returns-clause-first c =
    takes_first pair_keys c.self.inside.queues (c.get_mut.follows.lender c.take_first.new.self) c.args.leg
    c.self.view_is _ _ (c.get_mut.follows.holds c.take_first.new.self) c.in-Some.ensures.value _
    c.take_first.ensures.items c.take_first.ensures.spare c.take_first.ensures.none

pub invariant_of-self-2 : goal.invariant_of-self-2
invariant_of-self-2 c =
    are-written c.self.inside.queues (c.get_mut.follows.lender c.take_first.new.self) c.args.leg c.self.invariant _ _
    (c.get_mut.follows.holds c.take_first.new.self) c.in-Some.ensures.value
    (each-taken _ _ (first_taken _ _ _ c.take_first.ensures.items c.take_first.ensures.none).1)

pub returns-clause-well_formed : goal.returns-clause-well_formed
returns-clause-well_formed c =
    first_formed c.take_first.result _ _ c.take_first.ensures.items (c.self.invariant _ _ (sym c.in-Some.ensures.value))
