use Rattle.std.proofs.Common.{◌<◌, subst, arith}
use Rattle.hashed_maps.proofs.Keys.{number_keys}
use Rattle.out_lanes.proofs.Calls.{none_at, one_at, adds_last}
use Rattle.out_lanes.proofs.destroy_lanes.DestroyLanes.push_reserved.Goals as goal

pub unreachable-requires : goal.unreachable-requires
unreachable-requires c =
    let room : 0 < 0 = subst (λ line. 0 < line.spare)
    (none_at number_keys c.self.inside.lanes c.args.chan c.self.view_is c.in_default.ensures.value) c.requires in
    omega arith

pub push_reserved-requires : goal.push_reserved-requires
push_reserved-requires c =
    subst (λ line. 0 < line.spare)
    (one_at number_keys c.self.inside.lanes c.args.chan c.self.view_is _ c.in-Some.ensures.value) c.requires

pub returns : goal.returns
returns c =
    adds_last number_keys c.self.inside.lanes (c.get_mut.follows.lender c.push_reserved.new.self) c.args.chan
    c.self.view_is _ _ (c.get_mut.follows.holds c.push_reserved.new.self) c.in-Some.ensures.value _
    c.push_reserved.ensures.items c.push_reserved.ensures.spare
