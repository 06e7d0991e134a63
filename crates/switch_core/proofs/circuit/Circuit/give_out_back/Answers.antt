use Rattle.std.proofs.Common.{◌≡◌, length, sym, ap, subst, ◌∙◌, arith}
use Rattle.switch_machine.specs.State.{CircuitState, LegState, WayState}
use Rattle.switch_core.specs.Meaning.{CircuitFits, WithRoom}
use Rattle.switch_core.proofs.Claims.{fits_back, given_back}
use Rattle.switch_core.proofs.circuit.Circuit.give_out_back.Goals as goal

pub give_out-requires : goal.give_out-requires
give_out-requires c =
    let same : c.self.inside.back.state ≡ c.args.self.now.back = ap (λ (x : CircuitState). x.back) c.self.view_is in
    let waiting_bodies : length c.self.inside.back.state.waiting_bodies ≡ length c.args.self.now.back.waiting_bodies =
    ap (λ (w : WayState). length w.waiting_bodies) same in
    record {
      none_out = ap (λ (w : WayState). w.claim_out) same ∙ c.requires.none_out;
      enough = omega (arith, waiting_bodies, c.requires.enough);
      fits =
          let forth : c.self.inside.forth.state.claimed_count ≡ c.args.self.now.forth.claimed_count =
          ap (λ (x : CircuitState). x.forth.claimed_count) c.self.view_is in
          omega (arith, waiting_bodies, c.requires.enough, c.self.invariant.packaged, forth, c.requires.fits);
    }

pub invariant_of-self : goal.invariant_of-self
invariant_of-self c =
    subst (λ (l : WithRoom LegState). CircuitFits l c.self.inside.forth c.self.inside.back c.self.inside.orders)
    (sym c.in_err-reserve.ensures.err) c.self.invariant

pub invariant_of-self-2 : goal.invariant_of-self-2
invariant_of-self-2 c =
    let same : c.self.inside.back.state ≡ c.args.self.now.back = ap (λ (x : CircuitState). x.back) c.self.view_is in
    let waiting_bodies : length c.self.inside.back.state.waiting_bodies ≡ length c.args.self.now.back.waiting_bodies =
    ap (λ (w : WayState). length w.waiting_bodies) same in
    fits_back c.self.inside.leg c.reserve.new.self c.self.inside.forth c.self.inside.back c.give_out.new.self c.self.inside.orders
    c.args.note c.self.invariant c.give_out.ensures.state c.give_out.ensures.spare c.reserve.ensures.state
    c.in_ok-reserve.ensures.ok (ap (λ (w : WayState). w.claim_out) same ∙ c.requires.none_out)
    (omega (arith, waiting_bodies, c.requires.enough))

pub returns-clause-ok : goal.returns-clause-ok
returns-clause-ok c =
    let same : c.self.inside.back.state ≡ c.args.self.now.back = ap (λ (x : CircuitState). x.back) c.self.view_is in
    let waiting_bodies : length c.self.inside.back.state.waiting_bodies ≡ length c.args.self.now.back.waiting_bodies =
    ap (λ (w : WayState). length w.waiting_bodies) same in
    given_back c.args.self.now c.self.inside.leg.state c.reserve.new.self.state c.self.inside.forth.state c.self.inside.back.state
    c.give_out.new.self.state c.self.inside.orders.state c.args.note c.self.view_is c.give_out.ensures.state
    c.reserve.ensures.state
    (ap (λ (w : WayState). w.claim_out) same ∙ c.requires.none_out) (omega (arith, waiting_bodies, c.requires.enough))
