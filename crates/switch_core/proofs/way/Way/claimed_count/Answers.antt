use Rattle.std.proofs.Common.{sym, ap, ◌∙◌}
use Rattle.switch_machine.specs.State.{WayState}
use Rattle.switch_core.specs.Meaning.{WithRoom}
use Rattle.switch_core.proofs.Claims.{claimed_as}
use Rattle.switch_core.proofs.way.Way.claimed_count.Goals as goal

pub returns : goal.returns
returns c =
    sym (claimed_as c.self.inside.claimed_count c.self.inside.claim c.self.inside.bodies.items)
    ∙ ap (λ (w : WithRoom WayState). w.state.claimed_count) c.self.view_is
