-- Forward bodies that come home and settle: the circuit.
use Rattle.std.proofs.Common.{◌≡◌, ◌==◌, ◌&&◌, true, if◌then◌else◌, List, ◌∷◌, ◌++◌, length, Some, None, refl, sym, ◌∙◌, ap, subst}
use Rattle.std.specs.List.{filter}
use Rattle.circuit_model.specs.NextHop.{next_hop}
use Rattle.circuit_model.specs.Rules.{Rules}
use Rattle.circuit_model.specs.Words.{log}
use Rattle.switch_machine.proofs.GiveBack.Batch.{batch-events, counted_from}
use Rattle.switch_machine.proofs.GiveBack.Home.{forth-settled, numbers-own, other-way, own-way, way-home}
use Rattle.switch_machine.proofs.GiveBack.Returned.{Returned, back_of, returning}
use Rattle.switch_machine.proofs.OtherEdges.{numbers-others}
use Rattle.switch_machine.proofs.Settling.Dials.{open_by}
use Rattle.switch_machine.specs.Calls.GiveBack.{home_way, settle_all}
use Rattle.switch_machine.specs.Calls.Settling.{Settling}
use Rattle.switch_machine.specs.Stands.OneCircuit.{CircuitStands, OrdersStand}
use Rattle.switch_machine.specs.State.{KeptClaim}
use Rattle.switch_model.proofs.Common.{and-false}
use Rattle.switch_model.specs.Answers.EdgeOut.{Ordered}
use Rattle.switch_model.specs.History.Circuit.{events}
use Rattle.switch_model.specs.History.EdgePast.{edge_past, numbers_of}
use Rattle.switch_model.specs.History.Legs.{holds_id}
use Rattle.switch_model.specs.History.Past.{past}
use Rattle.switch_model.specs.History.Relayed.{settled_forth}
use Rattle.switch_model.specs.History.Returns.{settled, settling_reason}
use Rattle.switch_model.specs.Names.{Way, same_way, way_of}
use Rattle.switch_model.specs.Waiting.Claims.{born_bodies}
use Rattle.switch_model.specs.Waiting.Dials.{dials_made, is_from, numbered, was_handed_out}
use Rattle.tr_io.specs.declared.answers.BackAnswer.TheVariants.{Settled}
use Rattle.tr_io.specs.declared.names.ClaimNote.{ClaimNote}
use Rattle.tr_io.specs.declared.names.Dir.TheVariants.{Back, Forth}
use Rattle.tr_io.specs.declared.step.Step.{Step}

-- what the step says of its circuit
past-settled : (rules : Rules) (h : List Step) (n : ClaimNote) → n.dir ≡ Forth →
    past rules (returning n Settled ∷ h) n.circ.0 ≡ record (past rules h n.circ.0) {
      events = events rules (returning n Settled ∷ h) n.circ.0;
      claim_out = λ dir. if same_way (way_of n) (record { circ = n.circ.0; dir = dir }) && true then None
          else (past rules h n.circ.0).claim_out dir;
    }
past-settled rules h n forth = rw (other-way n n.circ.0 Back Forth forth refl) refl

pub circuit-settled : (rules : Rules) (closes : List Ordered) (h : List Step) (n : ClaimNote) (y : Settling) (k : KeptClaim)
    → n.dir ≡ Forth → y.circuit.forth.claim_out ≡ Some k → k.note ≡ n →
    y.events ≡ events rules h n.circ.0 → y.bodies ≡ length (born_bodies rules h)
    → settling_reason rules y.circuit.sent_count y.events k.cells ≡ None →
    CircuitStands rules closes y.circuit n.circ.0 (past rules h n.circ.0) (λ j. holds_id h n.circ.0 j)
    (edge_past rules h n.circ.0) → Returned rules h n Settled y (settle_all rules y k.cells) →
    CircuitStands rules closes (record ((settle_all rules y k.cells).circuit) { forth = home_way y.circuit.forth }) n.circ.0
    (past rules (returning n Settled ∷ h) n.circ.0) (λ j. holds_id (returning n Settled ∷ h) n.circ.0 j)
    (edge_past rules (returning n Settled ∷ h) n.circ.0)
circuit-settled rules closes h n y k forth out its before numbered none own behind_it =
    let c = n.circ.0 in
    let forth_way : Way = record { circ = c; dir = Forth } in
    let numbers = numbers_of (back_of c) (born_bodies rules h) in
    let came : settled_forth (log rules (events rules (returning n Settled ∷ h) c)) ≡ settled_forth (log rules (events rules h c))
    ++ k.cells =
    subst (λ e. settled_forth (log rules e) ≡ settled_forth (log rules (events rules h c)) ++ k.cells)
    (sym (batch-events rules k.cells y) ∙ behind_it.events_are)
    (subst (λ e. settled_forth (log rules (settled rules y.circuit.sent_count y.events k.cells)) ≡ settled_forth (log rules e)
    ++ k.cells) before (forth-settled rules y.circuit.sent_count k.cells y.events none)) in
    let back_numbers : numbers_of (back_of c) (born_bodies rules (returning n Settled ∷ h)) ≡ numbers ++ counted_from y.bodies
    behind_it.count =
    ap (numbers_of (back_of c)) behind_it.born_are ∙ numbers-own (back_of c) behind_it.count (born_bodies rules h)
    ∙ ap (λ b. numbers ++ counted_from b behind_it.count) (sym numbered) in
    let forth_numbers : numbers_of forth_way (born_bodies rules (returning n Settled ∷ h)) ≡ numbers_of forth_way
    (born_bodies rules h) =
    ap (numbers_of forth_way) behind_it.born_are ∙ numbers-others forth_way (back_of c) behind_it.count (born_bodies rules h)
    (and-false (c == c)) in
    rw (past-settled rules h n forth) (record {
      live = own.live;
      sent_count = behind_it.sent_count ∙ own.sent_count;
      born = behind_it.core.born;
      sealed = behind_it.core.sealed;
      linked = behind_it.core.linked;
      hops = behind_it.core.hops;
      legs = behind_it.core.legs;
      forth = rw (own-way n c Forth refl forth, came, forth_numbers) (way-home c Forth y.circuit.forth _ _ _ _ _ k own.forth out);
      back = rw (other-way n c Back Forth forth refl, back_numbers) behind_it.core.back;
      orders = subst
          (λ e. OrdersStand (settle_all rules y k.cells).circuit.reach_orders (settle_all rules y k.cells).circuit.carry_orders
          (settle_all rules y k.cells).circuit.close_orders (log rules e)) behind_it.events_are behind_it.orders;
      no_left = own.no_left;
      dial = subst
          (λ e. (settle_all rules y k.cells).circuit.dial ≡ open_by (next_hop (log rules e)) (was_handed_out h)
          (filter (is_from c) (dials_made rules (returning n Settled ∷ h)))) behind_it.events_are behind_it.dial;
    })
