use Rattle.std.proofs.Common.{ap, ◌∙◌}
use Rattle.std.specs.FinMap.{from_entries}
use Rattle.hashed_maps.proofs.Keys.{number_keys}
use Rattle.out_lanes.proofs.Calls.{takes_first, takes_first-none, none_at}
use Rattle.out_lanes.proofs.destroy_lanes.DestroyLanes.pop.Goals as goal

pub returns-in_default : goal.returns-in_default
returns-in_default c =
    takes_first-none (ap (λ m. from_entries m.entries) c.get_mut.follows.holds-at-none ∙ c.self.view_is)
    (none_at number_keys c.self.inside.lanes c.args.chan c.self.view_is c.in_default.ensures.value)

pub returns : goal.returns
returns c =
    takes_first number_keys c.self.inside.lanes (c.get_mut.follows.lender c.take_first.new.self) c.args.chan
    c.self.view_is _ _ (c.get_mut.follows.holds c.take_first.new.self) c.in-Some.ensures.value _
    c.take_first.ensures.items c.take_first.ensures.spare c.take_first.ensures.none
