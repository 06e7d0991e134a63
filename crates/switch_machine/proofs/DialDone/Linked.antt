-- A circuit whose next hop was linked stands for its past.
use Rattle.std.proofs.Common.{Bool, List, None, Option, Some, [], ap, arith, false, if◌then◌else◌, inl, inr, length, option_to_list, refl, subst, suc, sym, true, zero, ℕ, ◌&&◌, ◌+◌, ◌==◌, ◌∙◌, ◌∷◌, ◌≡◌}
use Rattle.std.proofs.Math.Dec.{eqb-suc-zero}
use Rattle.std.proofs.lemmas.Bool.Decides.{eqb_tells}
use Rattle.std.proofs.lemmas.List.{append-nil, length-append}
use Rattle.circuit_model.specs.Effects.{effects_after, open_effects}
use Rattle.circuit_model.specs.Events.{CircuitCell, Event}
use Rattle.circuit_model.specs.Extending.{accepted_request, creating}
use Rattle.circuit_model.specs.Log.{Effects, Entry, Log, Message, Order, is_closed, newest, no_effects}
use Rattle.circuit_model.specs.NextHop.{leg_count}
use Rattle.circuit_model.specs.Packaged.{back_bodies}
use Rattle.circuit_model.specs.Received.{message_at}
use Rattle.circuit_model.specs.Rules.{Rules}
use Rattle.circuit_model.specs.Sent.{given_forth, sent_to_hop}
use Rattle.circuit_model.specs.Words.{log}
use Rattle.circuit_model.specs.declared.event.Event.TheVariants.{Linked}
use Rattle.switch_model.proofs.Common.{self_eq}
use Rattle.switch_model.proofs.Ported.{port-before, turned}
use Rattle.switch_model.specs.Answers.EdgeOut.{Ordered}
use Rattle.switch_model.specs.History.Channels.{next_given_id}
use Rattle.switch_model.specs.History.Circuit.{events, sent}
use Rattle.switch_model.specs.History.EdgePast.{edge_past}
use Rattle.switch_model.specs.History.Legs.{Port, holds_id, hops, port}
use Rattle.switch_model.specs.History.Past.{past}
use Rattle.switch_model.specs.Legal.{IsLegal}
use Rattle.switch_model.specs.Start.{SwitchStart}
use Rattle.switch_model.specs.Waiting.Queues.{sealed_count, sendable}
use Rattle.tor_spec.specs.Extend.{Extend}
use Rattle.tr_io.specs.declared.dials.DialOutcome.{DialOutcome}
use Rattle.tr_io.specs.declared.dials.DialStep.{DialStep}
use Rattle.tr_io.specs.declared.names.ChanNo.{ChanNo}
use Rattle.tr_io.specs.declared.step.Step.{Step}
use Rattle.switch_machine.proofs.DialDone.NewLeg.{holds-new, holds-other, linking, none-sent, none-to-hop, port-new}
use Rattle.switch_machine.proofs.Slots.{slot_at-push}
use Rattle.switch_machine.specs.Calls.DialDone.{linked_circuit, linked_leg}
use Rattle.switch_machine.specs.Stands.OneCircuit.{CircuitStands, OrdersStand}
use Rattle.switch_machine.specs.Stands.OneLeg.{LegBy}
use Rattle.switch_machine.specs.State.{CircuitState, slot_at}

-- What the one-thread relay does where a next hop was linked: it sends a cell there, and nothing else.
pub record IsLink (fx : Effects) : Type 0 where
  pub back : fx.back ≡ None
  pub edge : fx.edge ≡ None
  pub cut : fx.cut ≡ false

link-if : (b : Bool) (one other : Effects) → IsLink one → IsLink other → IsLink (if b then one else other)
link-if true one other is are = is
link-if false one other is are = are

link-creating : (o : Option Extend) → IsLink (creating o)
link-creating None = record { back = refl; edge = refl; cut = refl }
link-creating (Some request) = record { back = refl; edge = refl; cut = refl }

pub link-effects : (rules : Rules) (l : Log) → IsLink (effects_after rules l Linked)
unfolding open_effects
link-effects rules l = link-if (is_closed l) no_effects _ (record { back = refl; edge = refl; cut = refl }) (link-creating
    (newest accepted_request l))

-- what may leave on the legs
abbrev linked_entry : Option Message → Effects → Entry
linked_entry m fx = record { event = Linked; message = m; effects = fx }

may-leave : (l : Log) (m : Option Message) (fx : Effects) (n k : ℕ) → IsLink fx → (k == leg_count l + 1) ≡ false →
    sendable (linked_entry m fx ∷ l) n k ≡ sendable l n k
may-leave l m fx n zero is other = rw is.back refl
may-leave l m fx n (suc k) is other = rw (eqb-suc-zero k, turned (leg_count l + 1) (suc k), other) (append-nil (sent_to_hop l
    (suc k)))

given-new : (l : Log) (m : Option Message) (fx : Effects) → IsLink fx →
    given_forth l (linked_entry m fx) ≡ option_to_list fx.forth
given-new l m fx is = rw is.cut (append-nil (option_to_list fx.forth))

may-leave-new : (l : Log) (m : Option Message) (fx : Effects) (n k : ℕ) → IsLink fx → k ≡ leg_count l + 1 →
    sendable (linked_entry m fx ∷ l) n k ≡ option_to_list fx.forth
may-leave-new l m fx n zero is same = absurd (omega (arith, same))
may-leave-new l m fx n (suc k) is same =
    rw (eqb-suc-zero k, none-to-hop l (suc k) (omega (arith, same)), ← same, self_eq (suc k)) (given-new l m fx is)

-- the legs
leg-new : (rules : Rules) (ev : List Event) (n id sealed : ℕ) (k : ℕ) (sent : List CircuitCell) (lies : Option Port)
    (has_id : Bool) → k ≡ leg_count (log rules ev) + 1 → sent ≡ [] →
    lies ≡ Some (record { chan = n; id = id }) → has_id ≡ true →
    LegBy (Some (linked_leg rules ev n id)) sent (sendable (log rules (Linked ∷ ev)) sealed k) lies has_id
leg-new rules ev n id sealed k sent lies has_id same none place holds =
    rw none (record {
      holds = holds;
      port = place;
      cells = sym (may-leave-new (log rules ev) (message_at (log rules ev) Linked) (effects_after rules
          (log rules ev) Linked) sealed k (link-effects rules (log rules ev)) same);
    })

legs-linked : (start : SwitchStart) (h : List Step) (given_order : DialStep) (outcome : DialOutcome) (n : ChanNo)
    (x : CircuitState)
    (closes : List Ordered) → IsLegal start (linking given_order outcome n ∷ h) →
    CircuitStands start.rules closes x given_order.circ.0 (past start.rules h given_order.circ.0)
    (λ j. holds_id h given_order.circ.0 j)
    (edge_past start.rules h given_order.circ.0) → (k : ℕ) →
    LegBy (slot_at (linked_circuit start.rules (events start.rules h given_order.circ.0) n.0 (next_given_id h n.0) x).legs k)
    (sent start.rules h given_order.circ.0 k)
    (sendable (log start.rules (Linked ∷ events start.rules h given_order.circ.0)) (sealed_count h given_order.circ.0) k) (port
    (linking given_order outcome n ∷ h) given_order.circ.0 k) (holds_id (linking given_order outcome n ∷ h) given_order.circ.0 k)
legs-linked start h given_order outcome n x closes legal own k =
    let rules = start.rules in
    let c = given_order.circ.0 in
    let ev = events rules h c in
    let new = linked_leg rules ev n.0 (next_given_id h n.0) in
    let legs_count : leg_count (log rules ev) ≡ hops h c = own.linked in
    let size : length x.legs ≡ hops h c + 1 = own.hops in
    elim (eqb_tells k (length x.legs)) [
      | inl (is, same) ↦
          let newest_leg : k ≡ hops h c + 1 = same ∙ size in
          rw (slot_at-push x.legs (Some new) k, is)
          (leg-new rules ev n.0 (next_given_id h n.0) (sealed_count h c) k (sent rules h c k)
          (port (linking given_order outcome n ∷
          h) c k) (holds_id (linking given_order outcome n ∷ h) c k) (omega (arith, newest_leg, legs_count))
          (none-sent start h c k legal.1 (omega (arith, newest_leg, legs_count))) (port-new h given_order outcome n k newest_leg)
          (holds-new h given_order outcome n k newest_leg))
      | inr (is, other) ↦
          let unlike : (k == hops h c + 1) ≡ false = subst (λ m. (k == m) ≡ false) size is in
          let unlike_count : (k == leg_count (log rules ev) + 1) ≡ false = subst (λ m. (k == m + 1) ≡ false)
          (sym legs_count) unlike in
          let apart : ((c == c) && (k == hops h c + 1)) ≡ false = rw (self_eq c) unlike in
          rw (slot_at-push x.legs (Some new) k, is)
          (subst (λ cells. LegBy (slot_at x.legs k) (sent rules h c k) cells (port (linking given_order outcome n ∷ h) c k)
          (holds_id
          (linking given_order outcome n ∷ h) c k))
          (sym (may-leave (log rules ev) (message_at (log rules ev) Linked) (effects_after rules (log rules ev) Linked)
          (sealed_count h c) k (link-effects rules (log rules ev)) unlike_count))
          (subst (λ p. LegBy (slot_at x.legs k) (sent rules h c k) (sendable (log rules ev) (sealed_count h c) k) p (holds_id
          (linking given_order outcome n ∷ h) c k)) (sym (port-before h (linking given_order outcome n) c k apart))
          (subst (λ b. LegBy (slot_at x.legs k) (sent rules h c k) (sendable (log rules ev) (sealed_count h c) k)
          (port h c k) b) (sym (holds-other start h given_order outcome n c k legal apart)) (own.legs k))))
    ]

-- the rest of it
orders-by : (reach carry close : List Order) (l : Log) (m : Option Message) (fx : Effects) → fx.edge ≡ None →
    OrdersStand reach carry close l → OrdersStand reach carry close (linked_entry m fx ∷ l)
orders-by reach carry close l m fx none own = record {
  reach_orders = λ serial. rw none (own.reach_orders serial);
  carry_orders = λ serial. rw none (own.carry_orders serial);
  close_orders = λ serial. rw none (own.close_orders serial);
}

behind-by : (l : Log) (m : Option Message) (fx : Effects) → fx.back ≡ None → back_bodies (linked_entry m fx ∷ l) ≡ back_bodies l
behind-by l m fx none = rw none refl

past-linked : (rules : Rules) (h : List Step) (given_order : DialStep) (outcome : DialOutcome) (n : ChanNo) →
    past rules (linking given_order outcome n ∷ h) given_order.circ.0 ≡ record (past rules h given_order.circ.0) {
      events = Linked ∷ events rules h given_order.circ.0;
      port = λ k. port (linking given_order outcome n ∷ h) given_order.circ.0 k;
      hops = hops h given_order.circ.0 + 1;
    }
past-linked rules h given_order outcome n = rw (self_eq given_order.circ.0) refl

pub circuit-linked : (start : SwitchStart) (h : List Step) (given_order : DialStep) (outcome : DialOutcome) (n : ChanNo)
    (x : CircuitState)
    (closes : List Ordered) → IsLegal start (linking given_order outcome n ∷ h) →
    CircuitStands start.rules closes x given_order.circ.0 (past start.rules h given_order.circ.0)
    (λ j. holds_id h given_order.circ.0 j)
    (edge_past start.rules h given_order.circ.0) →
    CircuitStands start.rules closes (linked_circuit start.rules (events start.rules h given_order.circ.0) n.0
    (next_given_id h n.0) x) given_order.circ.0
    (past start.rules (linking given_order outcome n ∷ h) given_order.circ.0)
    (λ j. holds_id (linking given_order outcome n ∷ h) given_order.circ.0 j)
    (edge_past start.rules (linking given_order outcome n ∷ h) given_order.circ.0)
circuit-linked start h given_order outcome n x closes legal own =
    let rules = start.rules in
    let c = given_order.circ.0 in
    let ev = events rules h c in
    let l = log rules ev in
    let fx = effects_after rules l Linked in
    let link = link-effects rules l in
    let new = linked_leg rules ev n.0 (next_given_id h n.0) in
    let same_behind : back_bodies (log rules (Linked ∷ ev)) ≡ back_bodies l = behind-by l (message_at l Linked) fx link.back in
    let size = own.hops in
    let legs_count : leg_count l ≡ hops h c = own.linked in
    let longer = length-append x.legs (Some new ∷ []) in
    subst (λ p. CircuitStands rules closes (linked_circuit rules ev n.0 (next_given_id h n.0) x) c p (λ j. holds_id
    (linking given_order outcome n ∷ h) c j) (edge_past rules (linking given_order outcome n ∷ h) c)) (sym
    (past-linked rules h given_order outcome n)) (record {
      live = own.live;
      sent_count = own.sent_count;
      born = own.born;
      sealed = rw same_behind own.sealed;
      linked = ap (λ m. m + 1) legs_count;
      hops = longer ∙ ap (λ m. m + 1) size;
      legs = legs-linked start h given_order outcome n x closes legal own;
      forth = own.forth;
      back = rw same_behind own.back;
      orders = orders-by x.reach_orders x.carry_orders x.close_orders l (message_at l Linked) fx link.edge own.orders;
      no_left = own.no_left;
      dial = refl;
    })
