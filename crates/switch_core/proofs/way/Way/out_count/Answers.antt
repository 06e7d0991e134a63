use Rattle.std.proofs.Common.{sym, ap, ◌∙◌}
use Rattle.switch_machine.specs.Calls.Take.{kept_length}
use Rattle.switch_machine.specs.State.{WayState}
use Rattle.switch_core.specs.Meaning.{WithRoom}
use Rattle.switch_core.proofs.Claims.{out_some, out_none}
use Rattle.switch_core.proofs.way.Way.out_count.Goals as goal

pub returns-in-Some : goal.returns-in-Some
returns-in-Some c =
    sym (out_some c.self.inside.claimed_count c.self.inside.claim c.self.inside.bodies.items c.in-Some.note c.self.invariant
    c.in-Some.is)
    ∙ ap (λ (w : WithRoom WayState). kept_length w.state.claim_out) c.self.view_is

pub returns-in-None : goal.returns-in-None
returns-in-None c =
    sym (out_none c.self.inside.claimed_count c.self.inside.claim c.self.inside.bodies.items c.in-None.is)
    ∙ ap (λ (w : WithRoom WayState). kept_length w.state.claim_out) c.self.view_is
