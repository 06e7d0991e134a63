-- dial_done that links a next hop over a channel keeps what a state stands for.
use Rattle.std.proofs.Common.{Bool, List, None, Option, Some, [], ap, arith, false, if◌then◌else◌, inl, inr, length, refl, subst, sym, true, ℕ, ◌&&◌, ◌++◌, ◌+◌, ◌-◌, ◌<◌, ◌==◌, ◌∙◌, ◌∷◌, ◌≡◌}
use Rattle.std.proofs.Math.Path.{fun_ext}
use Rattle.std.proofs.lemmas.Bool.Decides.{eqb_tells}
use Rattle.circuit_model.specs.Events.{Event}
use Rattle.circuit_model.specs.Rules.{Rules}
use Rattle.circuit_model.specs.Windows.{carries}
use Rattle.switch_model.proofs.Common.{and-first, and-second, same-number, self_eq}
use Rattle.switch_model.proofs.Others.{other_pasts}
use Rattle.switch_model.specs.History.Channels.{channel_at, channels, given_ids, next_given_id}
use Rattle.switch_model.specs.History.Circuit.{events}
use Rattle.switch_model.specs.History.EdgePast.{edge_past}
use Rattle.switch_model.specs.History.Legs.{at, holds_id, hops}
use Rattle.switch_model.specs.History.Past.{past}
use Rattle.switch_model.specs.Legal.{IsLegal, IsRightStep}
use Rattle.switch_model.specs.Limits.{given_id_base}
use Rattle.switch_model.specs.Names.{Leg}
use Rattle.switch_model.specs.Start.{SwitchStart}
use Rattle.switch_model.specs.Waiting.Counts.{cell_count, tick}
use Rattle.switch_model.specs.Waiting.Dials.{dials_made, was_handed_out}
use Rattle.switch_model.specs.Waiting.Lanes.{Destroy, lane}
use Rattle.tr_io.specs.declared.dials.DialOutcome.{DialOutcome}
use Rattle.tr_io.specs.declared.dials.DialStep.{DialStep}
use Rattle.tr_io.specs.declared.names.ChanNo.{ChanNo}
use Rattle.tr_io.specs.declared.step.Step.{Step}
use Rattle.switch_machine.proofs.Counting.{halved-none}
use Rattle.switch_machine.proofs.DialDone.Linked.{circuit-linked}
use Rattle.switch_machine.proofs.DialDone.NewLeg.{holds-other, linking, none-counted}
use Rattle.switch_machine.proofs.Dials.{dials-changed}
use Rattle.switch_machine.proofs.GrewLegs.{used-alike}
use Rattle.switch_machine.proofs.Lying.{lies-with}
use Rattle.switch_machine.proofs.OneChannel.{channel-changed, channel-own}
use Rattle.switch_machine.proofs.OneCircuit.{circuit-changed, circuit-own}
use Rattle.switch_machine.proofs.OneStep.{step-added}
use Rattle.switch_machine.proofs.OtherEdges.{other_edges}
use Rattle.switch_machine.proofs.Slots.{length-with, slot_at-inside, slot_at-past, slot_at-push, slot_at-with}
use Rattle.switch_machine.specs.Calls.DialDone.{linked_circuit, linked_leg, linked_over, next_id, with_id_given}
use Rattle.switch_machine.specs.Machine.{again_with, counted, dial_in, has_port, leg_at, leg_in}
use Rattle.switch_machine.specs.Stands.{Stands}
use Rattle.switch_machine.specs.Stands.Channels.{ChannelPast, ChannelsStand, channel_past}
use Rattle.switch_machine.specs.Stands.CircIds.{IsUsed}
use Rattle.switch_machine.specs.Stands.Counts.{CountAt}
use Rattle.switch_machine.specs.Stands.Legs.{LiesOn}
use Rattle.switch_machine.specs.Stands.OneCircuit.{CircuitAt, CircuitStands}
use Rattle.switch_machine.specs.State.{ChannelState, CircuitState, LegState, State, slot_at, with_slot}

-- The channels that are live behind the step, before the CircID is given out.
pub record AreUp (start : SwitchStart) (s : State) (h : List Step) (step : Step) (slots : List (Option ChannelState)) : Type 0
  where
    pub size : length slots ≡ channels (step ∷ h)
    pub stand : ChannelsStand slots (λ m. record {
      channel = channel_at (step ∷ h) m;
      given_count = given_ids h m;
      lane =
          lane start.rules h m;
    })
    pub lie : (leg : Leg) → LiesOn slots (leg_in s leg)

-- a channel gave one more CircID out
channels-given : (slots : List (Option ChannelState)) (p q : ℕ → ChannelPast) (n : ℕ) (x : ChannelState) →
    slot_at slots n ≡ Some x
    → ((m : ℕ) → q m ≡ record (p m) { given_count = if n == m then (p m).given_count + 1 else (p m).given_count }) →
    ChannelsStand slots p → ChannelsStand (with_slot slots n (Some (with_id_given x))) q
channels-given slots p q n x found same stand =
    let own = channel-own slots p n x found stand in
    channel-changed slots p q n x (with_id_given x) found (λ m other. same m ∙ rw other refl)
    (rw (same n, self_eq n) (record { channel = own.channel; given_count = ap (λ g. g + 1) own.given_count; lane = own.lane }))
    stand

-- what holds of the new leg, and of each leg that was there
put-or : (P : Option LegState → Type 0) (new : LegState) (b : Bool) (z : Option LegState) → (b ≡ true → P (Some new)) → P z →
    P (if b then Some new else z)
put-or P new true z here there = here refl
put-or P new false z here there = there

legs-fact : (P : Option LegState → Type 0) (s : State) (c : ℕ) (x y : CircuitState) (new : LegState) →
    slot_at s.circuits c ≡ Some x → y.legs ≡ x.legs ++ Some new ∷ [] → (leg : Leg) →
    (leg.circ ≡ c → leg.number ≡ length x.legs → P (Some new)) → P (leg_in s leg) →
    P (leg_at (slot_at (with_slot s.circuits c (Some y)) leg.circ) leg.number)
legs-fact P s c x y new found grown leg here there = elim (eqb_tells leg.circ c) [
  | inl (is, same) ↦
      let old : leg_in s leg ≡ slot_at x.legs leg.number = rw (same, found) refl in
      rw (
        slot_at-with s.circuits c (Some y) leg.circ (slot_at-inside s.circuits c x found),
        is,
        grown,
        slot_at-push x.legs
            (Some new) leg.number,
      )
      (put-or P new (leg.number == length x.legs) (slot_at x.legs leg.number) (λ last. here same (same-number leg.number
      (length x.legs) last)) (subst P old there))
  | inr (is, other) ↦ rw (slot_at-with s.circuits c (Some y) leg.circ (slot_at-inside s.circuits c x found), is) there
]

none-before : (s : State) (c : ℕ) (x : CircuitState) → slot_at s.circuits c ≡ Some x → (leg : Leg) → leg.circ ≡ c →
    leg.number ≡ length x.legs → leg_in s leg ≡ None
none-before s c x found leg here last = rw (here, found) (slot_at-past x.legs leg.number (omega (arith, last)))

not-none : (m i : ℕ) (z : Option LegState) → z ≡ None → has_port m i z ≡ true → ⊥
not-none m i None none has = absurd cc
not-none m i (Some leg) none has = absurd cc

new-there : (s : State) (c : ℕ) (x y : CircuitState) (new : LegState) (k : ℕ) → slot_at s.circuits c ≡ Some x →
    y.legs ≡ x.legs ++ Some new ∷ [] → k ≡ length x.legs →
    leg_at (slot_at (with_slot s.circuits c (Some y)) c) k ≡ Some new
new-there s c x y new k found grown last = rw (
  slot_at-with s.circuits c (Some y) c (slot_at-inside s.circuits c x found),
  self_eq c,
  grown,
  slot_at-push x.legs (Some new) k,
  last,
  self_eq (length x.legs),
) refl

new-port : (h : List Step) (n m i : ℕ) (rules : Rules) (ev : List Event) → ((n == m) && (next_given_id h m == i)) ≡ true →
    has_port m i (Some (linked_leg rules ev n (next_given_id h n))) ≡ true
new-port h n m i rules ev it =
    let same = same-number n m (and-first (n == m) _ it) in
    let id : (next_given_id h n == i) ≡ true = subst (λ a. (next_given_id h a == i) ≡ true) (sym same) (and-second
    (n == m) _ it) in
    rw (and-first (n == m) _ it, id) refl

used-if : (legs : Leg → Option LegState) (waits : List Destroy) (m i : ℕ) (b : Bool) (new found : Option Leg) → (b ≡ true →
    IsUsed legs waits m i new) → IsUsed legs waits m i found → IsUsed legs waits m i (if b then new else found)
used-if legs waits m i true new found first later = first refl
used-if legs waits m i false new found first later = later

above-hops : (h : List Step) (leg : Leg) (c many : ℕ) → leg.circ ≡ c → leg.number ≡ many → many ≡ hops h c + 1 →
    hops h leg.circ < leg.number
above-hops h leg c many here last size = let same = ap (hops h) here in omega (arith, same, last, size)

pub linked-kept : (start : SwitchStart) (s : State) (h : List Step) (given_order : DialStep) (outcome : DialOutcome) (n : ChanNo)
    (x : CircuitState) (slots : List (Option ChannelState)) (channel : ChannelState) → Stands start s h →
    slot_at s.circuits given_order.circ.0 ≡ Some x → slot_at slots n.0 ≡ Some channel →
    AreUp start s h (linking given_order outcome n) slots → IsRightStep start h (linking given_order outcome n) →
    Stands start
    (linked_over start.rules (events start.rules h given_order.circ.0) s given_order.circ.0 x slots n.0 (Some channel))
    (linking given_order outcome n ∷ h)
linked-kept start s h given_order outcome n x slots channel st found carries up right =
    let rules = start.rules in
    let c = given_order.circ.0 in
    let ev = events rules h c in
    let step = linking given_order outcome n in
    let legal : IsLegal start (step ∷ h) = (right, st.steps.legal) in
    let id = next_given_id h n.0 in
    let new = linked_leg rules ev n.0 id in
    let y = linked_circuit rules ev n.0 id x in
    let more = with_slot slots n.0 (Some (with_id_given channel)) in
    let t : State = record (counted s) {
      channels = more;
      circuits = with_slot s.circuits c (Some y);
      again =
          again_with c None s.again;
    } in
    let p : ℕ → ChannelPast =
    λ m. record { channel = channel_at (step ∷ h) m; given_count = given_ids h m; lane = lane rules h m } in
    let its = channel-own slots p n.0 channel carries up.stand in
    let same_id : next_id channel ≡ id = ap (λ g. given_id_base + g + 1) its.given_count in
    let own : CircuitStands rules s.last_closes x c (past rules h c) (λ j. holds_id h c j) (edge_past rules h c) =
    circuit-own rules s.last_closes s.circuits (λ d. past rules h d) (λ d j. holds_id h d j) (λ d.
    edge_past rules h d) c x found st.circuits in
    let inside = slot_at-inside s.circuits c x found in
    let on = slot_at-inside slots n.0 channel carries in
    let size : length t.circuits ≡ length s.circuits = length-with s.circuits c (Some y) in
    let legs_count : length x.legs ≡ hops h c + 1 = own.hops in
    subst (λ i. Stands start (record (counted s) {
      channels = more;
      circuits = with_slot s.circuits c (Some
          (linked_circuit rules ev n.0 i x));
      again = again_with c None s.again;
    }) (step ∷ h)) (sym same_id) (record {
      steps = step-added start s.steps h step st.steps right;
      numbers = record {
        channels = length-with slots n.0 _ ∙ up.size;
        circuits = size ∙ st.numbers.circuits;
        claims = st.numbers.claims;
        bodies = st.numbers.bodies;
        dial_orders = st.numbers.dial_orders;
        tick = st.numbers.tick;
      };
      channels = channels-given slots p (λ m. channel_past rules (step ∷ h) m) n.0 channel carries (λ m. refl) up.stand;
      circuits = circuit-changed rules s.last_closes s.circuits (λ d. past rules h d) (λ d. past rules (step ∷ h) d) (λ d j.
          holds_id h d j) (λ d j. holds_id (step ∷ h) d j)
          (λ d. edge_past rules h d) (λ d. edge_past rules (step ∷ h) d) c x (Some y) found
          (λ d other old. rw (other_pasts rules h step d (rw other refl), other_edges rules h step d (rw other refl) refl)
          (subst (λ f. CircuitAt rules s.last_closes (slot_at s.circuits d) d (past rules h d) f (edge_past rules h d)) (sym
          (fun_ext (λ j. holds-other start h given_order outcome n d j legal (rw other refl)))) old))
          (λ d other fresh. rw (
            other_pasts rules h step d (rw other refl),
            other_edges rules h step d
                (rw other refl) refl,
          ) fresh)
          (circuit-linked start h given_order outcome n x s.last_closes legal own) st.circuits;
      ids = record {
        used = λ m i. used-if (leg_in t) (lane rules h m) m i ((n.0 == m) && (next_given_id h m == i)) (Some (record {
          circ = c;
          number = hops h c + 1;
        })) (at h m i)
            (λ it. inl (rw (new-there s c x y new (hops h c + 1) found refl (sym legs_count)) (new-port h n.0 m i rules ev it)))
            (used-alike (leg_in s) (leg_in t) (lane rules h m) m i (at h m i)
            (λ leg has. legs-fact (λ z. has_port m i z ≡ true) s c x y new found refl leg (λ here last. absurd (not-none m i
            (leg_in s leg) (none-before s c x found leg here last) has)) has) (st.ids.used m i));
      };
      legs = record {
        lie = λ leg. legs-fact (LiesOn more) s c x y new found refl leg (λ here last. rw (
          slot_at-with slots n.0 (Some
              (with_id_given channel)) n.0 on,
          self_eq n.0,
        ) refl)
            (lies-with slots n.0 (with_id_given channel) (leg_in s leg) on (up.lie leg));
      };
      dials = dials-changed s.again (dial_in s) (dial_in t) c (length (dials_made rules h)) (length (dials_made rules h))
          (was_handed_out h) (was_handed_out h) None
          (rw (slot_at-with s.circuits c (Some y) c inside, self_eq c) refl)
          (λ d other. rw (slot_at-with s.circuits c (Some y) d inside, other) refl) st.dials.never st.dials;
      counts = record {
        counts = λ leg. legs-fact (λ z. CountAt z (cell_count rules h leg.circ leg.number) (tick h)) s c x y new found refl leg
            (λ here last. record {
              since = omega arith;
              count = none-counted start h st.steps.legal leg.circ leg.number (above-hops h leg c
                  (length x.legs) here last legs_count) ∙ sym (halved-none (tick h - 0));
            }) (st.counts.counts leg);
        no_count = λ d j beyond. st.counts.no_count d j (omega (arith, beyond, size));
      };
      slots = st.slots;
      not_yet = st.not_yet;
    })
