use Rattle.std.proofs.Common.{◌≡◌, length, sym, ap, subst, ◌∙◌, arith}
use Rattle.switch_machine.specs.State.{CircuitState, WayState}
use Rattle.switch_core.specs.Meaning.{CircuitFits, WithRoom}
use Rattle.switch_core.proofs.Claims.{fits_forth, fits_more, given_forth}
use Rattle.switch_core.proofs.circuit.Circuit.give_out_forth.Goals as goal

pub give_out-requires : goal.give_out-requires
give_out-requires c =
    let same : c.self.inside.forth.state ≡ c.args.self.now.forth = ap (λ (x : CircuitState). x.forth) c.self.view_is in
    let waiting_bodies : length c.self.inside.forth.state.waiting_bodies ≡ length c.args.self.now.forth.waiting_bodies =
    ap (λ (w : WayState). length w.waiting_bodies) same in
    let claimed_count : c.self.inside.forth.state.claimed_count ≡ c.args.self.now.forth.claimed_count =
    ap (λ (w : WayState). w.claimed_count) same in
    record {
      none_out = ap (λ (w : WayState). w.claim_out) same ∙ c.requires.none_out;
      enough = omega (arith, waiting_bodies, c.requires.enough);
      fits = omega (arith, waiting_bodies, claimed_count, c.requires.enough, c.requires.fits);
    }

pub invariant_of-self : goal.invariant_of-self
invariant_of-self c =
    subst (λ (w : WithRoom WayState). CircuitFits c.self.inside.leg c.self.inside.forth w c.self.inside.orders)
    (sym c.in_err-reserve.ensures.err) c.self.invariant

pub invariant_of-self-in_err-reserve-2 : goal.invariant_of-self-in_err-reserve-2
invariant_of-self-in_err-reserve-2 c =
    fits_more c.self.inside.leg c.self.inside.forth c.self.inside.back c.reserve.new.self c.self.inside.orders
    c.reserve-2.new.self c.self.invariant c.reserve.ensures.state c.reserve.ensures.kept c.reserve-2.ensures.kept_spare
    c.reserve-2.ensures.kept_rooms

pub invariant_of-self-2 : goal.invariant_of-self-2
invariant_of-self-2 c =
    let same : c.self.inside.forth.state ≡ c.args.self.now.forth = ap (λ (x : CircuitState). x.forth) c.self.view_is in
    let waiting_bodies : length c.self.inside.forth.state.waiting_bodies ≡ length c.args.self.now.forth.waiting_bodies =
    ap (λ (w : WayState). length w.waiting_bodies) same in
    fits_forth c.self.inside.leg c.self.inside.forth c.give_out.new.self c.self.inside.back c.reserve.new.self
    c.self.inside.orders c.reserve-2.new.self c.args.note c.self.invariant c.give_out.ensures.state c.reserve.ensures.state
    c.in_ok-reserve.ensures.ok c.in_ok-reserve-2.ensures.spare c.in_ok-reserve-2.ensures.rooms
    (ap (λ (w : WayState). w.claim_out) same ∙ c.requires.none_out) (omega (arith, waiting_bodies, c.requires.enough))

pub returns-clause-ok : goal.returns-clause-ok
returns-clause-ok c =
    given_forth c.args.self.now c.self.inside.leg.state c.self.inside.forth.state c.give_out.new.self.state
    c.self.inside.back.state c.reserve.new.self.state c.self.inside.orders.state c.reserve-2.new.self.state c.args.note
    c.self.view_is c.give_out.ensures.state c.reserve.ensures.state c.reserve-2.ensures.state
