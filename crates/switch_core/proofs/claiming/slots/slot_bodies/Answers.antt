use Rattle.std.proofs.Common.{◌≤◌, length, sym, subst, ap, ◌∙◌}
use Rattle.switch_machine.specs.State.{WayState}
use Rattle.switch_core.proofs.Claims.{claim_of, ClaimOf}
use Rattle.switch_core.proofs.claiming.slots.slot_bodies.Goals as goal

pub first_bodies-requires : goal.first_bodies-requires
first_bodies-requires c =
    let may : ClaimOf c.in-Some.circuit c.args.note =
    claim_of c.args.slot.now c.in-Some.circuit c.args.note c.in-Some.is c.requires in
    record {
      none_out = ap (λ (w : WayState). w.claim_out) c.way.ensures ∙ may.none_out;
      enough = subst (λ (w : WayState). c.args.note.count ≤ length w.waiting_bodies) (sym c.way.ensures) may.enough;
    }
