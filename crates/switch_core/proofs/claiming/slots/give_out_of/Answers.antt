use Rattle.std.proofs.Common.{◌+◌, ◌<◌, ◌^◌, length, Option, IfSome, subst}
use Rattle.switch_machine.specs.State.{CircuitState}
use Rattle.switch_core.proofs.Claims.{claim_of, ClaimOf}
use Rattle.switch_core.proofs.claiming.slots.give_out_of.Goals as goal

pub give_out-requires : goal.give_out-requires
give_out-requires c =
    let may : ClaimOf c.in-Some.circuit c.args.note =
    claim_of c.args.slot.now c.in-Some.circuit c.args.note c.in-Some.is c.requires.claim in
    record {
      none_out = may.none_out;
      enough = may.enough;
      fits = subst (λ (x : Option CircuitState). IfSome x (λ y. y.forth.claimed_count + length y.forth.waiting_bodies < 2 ^ 64))
          c.in-Some.is c.requires.fits;
    }
