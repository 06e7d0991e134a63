use Rattle.std.proofs.Common.{◌≡◌, ◌≤◌, length, take, take_all, sym, ap, ◌∙◌, subst}
use Rattle.std.proofs.lemmas.List.{length-map}
use Rattle.switch_machine.specs.Calls.GiveBack.{home_way}
use Rattle.switch_machine.specs.Calls.Settling.{more_queued}
use Rattle.switch_machine.specs.Calls.Take.{kept_length}
use Rattle.switch_machine.specs.State.{CircuitState, LegState, WayState}
use Rattle.switch_core.specs.Meaning.{WithRoom, circuit_of}
use Rattle.switch_core.specs.Ordering.{RoomyOrders}
use Rattle.switch_core.specs.Sealing.{sealed_cell, sealed_cells_of, with_sealed}
use Rattle.switch_core.proofs.Seals.{sealed_circuit}
use Rattle.switch_core.proofs.circuit.Circuit.seal_back.Goals as goal

pub returns : goal.returns
returns c =
    let cells = sealed_cells_of c.args.sealed.now in
    let all : take c.loop-number.number c.args.sealed.now ≡ c.args.sealed.now =
    take_all c.loop-number.number c.args.sealed.now c.loop-number-test.false in
    let leg : c.loop-number.self-inside.leg.state ≡ more_queued cells c.self.inside.leg.state =
    c.loop-number.invariant.leg ∙ ap (λ l. more_queued (sealed_cells_of l) c.self.inside.leg.state) all in
    let back : c.bring_home.new.self.state ≡ home_way c.self.inside.back.state =
    c.bring_home.ensures.state ∙ ap (λ (w : WithRoom WayState). home_way w.state) c.loop-number.invariant.back in
    let count : length cells ≡ kept_length c.self.inside.back.state.claim_out =
    length-map c.args.sealed.now sealed_cell ∙ c.requires.count
    ∙ sym (ap (λ (x : CircuitState). kept_length x.back.claim_out) c.self.view_is) in
    ap (λ (l : LegState). circuit_of l c.loop-number.self-inside.forth.state c.bring_home.new.self.state
    c.loop-number.self-inside.orders.state) leg
    ∙ ap (λ (w : WayState). circuit_of (more_queued cells c.self.inside.leg.state) c.loop-number.self-inside.forth.state w
    c.loop-number.self-inside.orders.state) back
    ∙ ap (λ (w : WithRoom WayState). circuit_of (more_queued cells c.self.inside.leg.state) w.state
    (home_way c.self.inside.back.state) c.loop-number.self-inside.orders.state) c.loop-number.invariant.forth
    ∙ ap (λ (o : RoomyOrders). circuit_of (more_queued cells c.self.inside.leg.state) c.self.inside.forth.state
    (home_way c.self.inside.back.state) o.state) c.loop-number.invariant.orders
    ∙ sealed_circuit c.self.inside.leg.state c.self.inside.forth.state c.self.inside.back.state c.self.inside.orders.state cells
    (subst (λ (x : CircuitState). kept_length x.back.claim_out ≤ x.back.claimed_count) (sym c.self.view_is) c.requires.out) count
    ∙ ap (with_sealed cells) c.self.view_is
