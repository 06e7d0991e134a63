-- A return of forward bodies that is accepted, settled or closing: what it makes of its circuit, and of the
-- next numbers of bodies and dial orders.
use Rattle.std.proofs.Common.{◌≡◌, ℕ, ◌+◌, ◌≤◌, true, false, List, ◌∷◌, ◌++◌, length, drop, replicate, Some, None, refl, sym, ◌∙◌, ap, subst}
use Rattle.std.specs.List.{filter}
use Rattle.circuit_model.specs.Events.{Event}
use Rattle.circuit_model.specs.NextHop.{next_hop}
use Rattle.circuit_model.specs.Packaged.{back_bodies}
use Rattle.circuit_model.specs.Rules.{Rules}
use Rattle.circuit_model.specs.Words.{log}
use Rattle.switch_machine.proofs.GiveBack.Batch.{HasOrders, batch, batch-events, counted_from, dial-batch, orders-batch, sent_count-settled}
use Rattle.switch_machine.proofs.GiveBack.Home.{length-repeated}
use Rattle.switch_machine.proofs.NewBodies.{all-new, new-many, new-none}
use Rattle.switch_machine.proofs.GiveBack.Said.{cells-said}
use Rattle.switch_machine.proofs.Settling.Core.{CoreStands}
use Rattle.switch_machine.proofs.Settling.Dials.{dial-before, dials-after_are, dials-counted, open_by}
use Rattle.switch_machine.proofs.GiveBack.Batch.{legs-batch}
use Rattle.switch_machine.proofs.GrewLegs.{Grew}
use Rattle.switch_machine.specs.Calls.GiveBack.{settle_all}
use Rattle.switch_machine.specs.Calls.Settling.{Settling, unsettled}
use Rattle.switch_machine.specs.Stands.OneCircuit.{CircuitStands, OrdersStand}
use Rattle.switch_machine.specs.State.{CircuitState, KeptClaim, State, slot_at}
use Rattle.switch_model.proofs.Common.{self_eq}
use Rattle.switch_model.specs.Answers.EdgeOut.{Ordered}
use Rattle.switch_model.specs.History.Circuit.{events, is_accepted_return, sent}
use Rattle.switch_model.specs.History.EdgePast.{edge_past, numbers_of}
use Rattle.switch_model.specs.History.Legs.{holds_id}
use Rattle.switch_model.specs.History.Past.{past}
use Rattle.switch_model.specs.History.Returns.{settled}
use Rattle.switch_model.specs.History.Taken.{claimed_cells}
use Rattle.switch_model.specs.Names.{Way}
use Rattle.switch_model.specs.Waiting.Claims.{born_bodies}
use Rattle.switch_model.specs.Waiting.Dials.{asked, dials_made, is_from, numbered, was_handed_out}
use Rattle.tr_io.specs.declared.answers.BackAnswer.{BackAnswer}
use Rattle.tr_io.specs.declared.names.ClaimNote.{ClaimNote}
use Rattle.tr_io.specs.declared.names.Dir.TheVariants.{Back, Forth}
use Rattle.tr_io.specs.declared.step.Step.{Step}
use Rattle.tr_io.specs.declared.step.Step.TheVariants.{GiveBack}

abbrev pub returning : ClaimNote → BackAnswer → Step
returning n a = GiveBack n None a

abbrev pub back_of : ℕ → Way
back_of c = record { circ = c; dir = Back }

-- The circuit before the bodies.
abbrev pub claimed_forth : Rules → List Step → State → ℕ → CircuitState → Settling
claimed_forth rules h s c x = unsettled (events rules h c) s x

-- With the claimed bodies, which are `cells`, and behind them the circuit is as this says.
pub record Returned (rules : Rules) (h : List Step) (n : ClaimNote) (a : BackAnswer) (y z : Settling) : Type 0 where
  pub count : ℕ
  pub events_are : z.events ≡ events rules (returning n a ∷ h) n.circ.0
  pub core : CoreStands z n.circ.0 (log rules (events rules (returning n a ∷ h) n.circ.0)) (past rules h n.circ.0)
      (λ j. holds_id h n.circ.0 j)
      (numbers_of (back_of n.circ.0) (born_bodies rules h) ++ counted_from y.bodies count)
  pub born_are : born_bodies rules (returning n a ∷ h) ≡ replicate count (back_of n.circ.0) ++ born_bodies rules h
  pub bodies : z.bodies ≡ length (born_bodies rules (returning n a ∷ h))
  pub dials : z.dials ≡ length (dials_made rules (returning n a ∷ h))
  pub orders : HasOrders rules z
  pub dial : z.circuit.dial ≡ open_by (next_hop (log rules z.events)) (was_handed_out h)
      (filter (is_from n.circ.0) (dials_made rules (returning n a ∷ h)))
  pub sent_count : z.circuit.sent_count ≡ y.circuit.sent_count
  pub legs : (j : ℕ) → Grew (slot_at y.circuit.legs j) (slot_at z.circuit.legs j)

-- the events of the circuit
events-returned : (rules : Rules) (h : List Step) (n : ClaimNote) (a : BackAnswer) → n.dir ≡ Forth → is_accepted_return a ≡ true →
    events rules (returning n a ∷ h) n.circ.0 ≡ settled rules (length (sent rules h n.circ.0 0)) (events rules h n.circ.0)
    (claimed_cells h n)
events-returned rules h n a forth accepted = rw (forth, accepted, self_eq n.circ.0) refl

born-returned : (rules : Rules) (h : List Step) (n : ClaimNote) (a : BackAnswer) (count : ℕ) →
    length (back_bodies (log rules (events rules (returning n a ∷ h) n.circ.0)))
    ≡ length (back_bodies (log rules (events rules h n.circ.0))) + count →
    born_bodies rules (returning n a ∷ h) ≡ replicate count (back_of n.circ.0) ++ born_bodies rules h
born-returned rules h n a count more =
    all-new _ _ (born_bodies rules h) (replicate count (back_of n.circ.0)) (new-many (back_of n.circ.0) _ _ count more)
    (new-none (record { circ = n.circ.0; dir = Forth }) _ _ refl)

pub batch-returned : (rules : Rules) (closes : List Ordered) (h : List Step) (n : ClaimNote) (a : BackAnswer) (y : Settling)
    (k : KeptClaim) → n.dir ≡ Forth → is_accepted_return a ≡ true →
    y.circuit.forth.claim_out ≡ Some k → k.note ≡ n → y.events ≡ events rules h n.circ.0 → y.bodies ≡ length (born_bodies rules h)
    → y.dials ≡ length (dials_made rules h) →
    ((order : ℕ) → length (dials_made rules h) ≤ order → was_handed_out h order ≡ false) →
    CircuitStands rules closes y.circuit n.circ.0 (past rules h n.circ.0) (λ j. holds_id h n.circ.0 j)
    (edge_past rules h n.circ.0) →
    Returned rules h n a y (settle_all rules y k.cells)
batch-returned rules closes h n a y k forth accepted out its before body_count dial_count never own =
    let c = n.circ.0 in
    let p = past rules h c in
    let made = dials_made rules h in
    let numbers = numbers_of (back_of c) (born_bodies rules h) in
    let core : CoreStands y c (log rules y.events) p (λ j. holds_id h c j) numbers =
    rw before (record {
      born = own.born;
      sealed = own.sealed;
      hops = own.hops;
      linked = own.linked;
      legs = own.legs;
      back = own.back;
    }) in
    let grown = batch rules k.cells y c p (λ j. holds_id h c j) numbers core in
    let cells : claimed_cells h n ≡ k.cells = cells-said rules closes h n y.circuit k out its own in
    let told : settled rules y.circuit.sent_count y.events k.cells ≡ events rules (returning n a ∷ h) c =
    rw (own.sent_count, before, ← cells) (sym (events-returned rules h n a forth accepted)) in
    let all_events : (settle_all rules y k.cells).events ≡ events rules (returning n a ∷ h) c =
    batch-events rules k.cells y ∙ told in
    let more : length (back_bodies (log rules (events rules (returning n a ∷ h) c))) ≡ length
    (back_bodies (log rules (events rules h c))) + grown.count =
    subst (λ e. length (back_bodies (log rules (events rules (returning n a ∷ h) c))) ≡ length (back_bodies (log rules e))
    + grown.count) before
    (subst (λ e. length (back_bodies (log rules e)) ≡ length (back_bodies (log rules y.events)) + grown.count) told
    grown.behind_is) in
    let born_now = born-returned rules h n a grown.count more in
    let dial_before : y.circuit.dial ≡ open_by (next_hop (log rules y.events)) (was_handed_out h) (filter (is_from c) made) =
    rw before own.dial in
    let dial_behind =
    dial-batch rules c (length made) (length (asked (log rules y.events))) (filter (is_from c) made) (was_handed_out h)
    k.cells y never (dial-before rules c made (was_handed_out h) y dial_count dial_before) in
    let made_now : (e : List Event) → e ≡ events rules (returning n a ∷ h) c → made ++ numbered (length made) c
    (drop (length (asked (log rules y.events))) (asked (log rules e))) ≡ dials_made rules (returning n a ∷ h) =
    λ e same. rw (same, before) refl in
    record {
      count = grown.count;
      events_are = all_events;
      core = subst
          (λ e. CoreStands (settle_all rules y k.cells) c (log rules e) p (λ j. holds_id h c j)
          (numbers ++ counted_from y.bodies grown.count)) told grown.core;
      born_are = born_now;
      bodies = grown.bodies ∙ ap (λ b. b + grown.count) body_count
          ∙ sym (ap length born_now ∙ length-repeated (back_of c) grown.count (born_bodies rules h));
      dials = dials-counted c (length (asked (log rules y.events))) (settle_all rules y k.cells).dials made
          (log rules (settle_all rules y k.cells).events) dial_behind.next
          ∙ ap length (made_now (settle_all rules y k.cells).events all_events);
      orders = orders-batch rules k.cells y
          (subst (λ e. OrdersStand y.circuit.reach_orders y.circuit.carry_orders y.circuit.close_orders (log rules e))
          (sym before) own.orders);
      dial = dial_behind.dial_is ∙ ap (open_by (next_hop (log rules (settle_all rules y k.cells).events)) (was_handed_out h))
          (sym (dials-after_are c (length (asked (log rules y.events))) made (log rules (settle_all rules y k.cells).events))
          ∙ ap (filter (is_from c)) (made_now (settle_all rules y k.cells).events all_events));
      sent_count = sent_count-settled rules k.cells y;
      legs = legs-batch rules k.cells y;
    }
