use Rattle.std.proofs.Common.{◌<◌, sym, ap, ◌∙◌, subst}
use Rattle.switch_machine.specs.Calls.Take.{kept_length}
use Rattle.switch_machine.specs.Machine.{kept_cells}
use Rattle.switch_machine.specs.State.{WayState, WaitingCell}
use Rattle.switch_core.specs.Meaning.{WithRoom}
use Rattle.switch_core.specs.Settling.{command_at}
use Rattle.switch_core.proofs.Ways.{command_out}
use Rattle.switch_core.proofs.way.Way.command_out.Goals as goal

pub returns : goal.returns
returns c =
    ap (λ (w : WaitingCell). w.cell.command) c.behind-self.view_is
    ∙ command_out c.self.inside.claimed_count c.self.inside.claim c.self.inside.bodies.items c.args.number c.index.result.now
    c.index.result.now c.self.invariant
    (subst (λ (w : WithRoom WayState). c.args.number < kept_length w.state.claim_out) (sym c.self.view_is) c.requires)
    c.index.ensures
    ∙ ap (λ (w : WithRoom WayState). command_at c.args.number (kept_cells w.state.claim_out)) c.self.view_is
