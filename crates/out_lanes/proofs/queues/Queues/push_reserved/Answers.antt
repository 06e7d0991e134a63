use Rattle.std.proofs.Common.{◌<◌, subst, arith}
use Rattle.hashed_maps.proofs.Keys.{pair_keys}
use Rattle.out_lanes.proofs.Calls.{none_at, one_at, adds_last}
use Rattle.out_lanes.proofs.WellFormed.{are-written, each-pushed_reserved}
use Rattle.out_lanes.proofs.queues.Queues.push_reserved.Goals as goal

pub unreachable-requires : goal.unreachable-requires
unreachable-requires c =
    let room : 0 < 0 = subst (λ line. 0 < line.spare)
    (none_at pair_keys c.self.inside.queues c.args.leg c.self.view_is c.in_default.ensures.value) c.requires.room in
    omega arith

pub push_reserved-requires : goal.push_reserved-requires
push_reserved-requires c =
    subst (λ line. 0 < line.spare)
    (one_at pair_keys c.self.inside.queues c.args.leg c.self.view_is _ c.in-Some.ensures.value) c.requires.room

pub returns : goal.returns
returns c =
    adds_last pair_keys c.self.inside.queues (c.get_mut.follows.lender c.push_reserved.new.self) c.args.leg
    c.self.view_is _ _ (c.get_mut.follows.holds c.push_reserved.new.self) c.in-Some.ensures.value _
    c.push_reserved.ensures.items c.push_reserved.ensures.spare

pub invariant_of-self : goal.invariant_of-self
invariant_of-self c =
    are-written c.self.inside.queues (c.get_mut.follows.lender c.push_reserved.new.self) c.args.leg c.self.invariant _ _
    (c.get_mut.follows.holds c.push_reserved.new.self) c.in-Some.ensures.value
    (each-pushed_reserved _ _ c.args.cell c.push_reserved.ensures.items c.requires.well_formed)
