use Rattle.std.proofs.Common.{◌+◌, length, ap, ◌∙◌}
use Rattle.switch_machine.specs.Calls.Take.{kept_length}
use Rattle.switch_core.proofs.Ways.{whole_length}
use Rattle.switch_core.proofs.way.Way.len.Goals as goal

pub returns : goal.returns
returns c =
    c.len.ensures
    ∙ c.self.inside.bodies.ok.0
    ∙ whole_length c.self.inside.claimed_count c.self.inside.claim c.self.inside.bodies.items c.self.invariant
    ∙ ap (λ w. kept_length w.state.claim_out + length w.state.waiting_bodies) c.self.view_is
