use Rattle.std.proofs.Common.{◌==◌, not, sym, refl, rules}
use Rattle.std.proofs.lemmas.Fn.{filter_same}
use Rattle.hashed_maps.proofs.Keys.{number_keys}
use Rattle.out_lanes.proofs.Changes.{written, line_absent}
use Rattle.out_lanes.proofs.destroy_lanes.DestroyLanes.take_out.Goals as goal

pub returns-in_default-clause-items : goal.returns-in_default-clause-items
returns-in_default-clause-items c =
    let none = line_absent number_keys c.self.inside.lanes.entries c.args.chan (sym c.in_default.ensures.value) in
    rw (← c.self.view_is, c.get_mut.follows.holds-at-none) (rw none refl)

pub returns-clause-items : goal.returns-clause-items
returns-clause-items c =
    let w = written number_keys c.self.inside.lanes (c.get_mut.follows.lender c.retain.new.self) c.args.chan _ _
    (c.get_mut.follows.holds c.retain.new.self) c.in-Some.ensures.value in
    rw (← c.self.view_is)
    (rw (w.is_line, w.was_line)
    (filter_same _ (λ d. not (d.id == c.args.id)) _ (λ x r f' k. search rules) _ _ c.retain.ensures.filtered))

pub returns-clause-capacity : goal.returns-clause-capacity
returns-clause-capacity c =
    let w = written number_keys c.self.inside.lanes (c.get_mut.follows.lender c.retain.new.self) c.args.chan _ _
    (c.get_mut.follows.holds c.retain.new.self) c.in-Some.ensures.value in
    rw (← c.self.view_is) (rw (w.is_line, w.was_line) c.retain.ensures.capacity)

pub returns-clause-others : goal.returns-clause-others
returns-clause-others c =
    let w = written number_keys c.self.inside.lanes (c.get_mut.follows.lender c.retain.new.self) c.args.chan _ _
    (c.get_mut.follows.holds c.retain.new.self) c.in-Some.ensures.value in
    rw (← c.self.view_is) w.others
