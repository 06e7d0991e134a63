-- dial_done that brings no next hop keeps what a state stands for: the order isn't out, or its circuit is torn down.
use Rattle.std.proofs.Common.{Bool, List, Option, Some, [], arith, false, if◌then◌else◌, refl, subst, suc, sym, true, zero, ℕ, ◌++◌, ◌==◌, ◌∙◌, ◌∷◌, ◌≡◌}
use Rattle.std.proofs.Math.Dec.{eqb-suc-zero}
use Rattle.std.proofs.lemmas.List.{append-nil}
use Rattle.circuit_model.specs.Effects.{open_effects}
use Rattle.circuit_model.specs.Events.{CircuitCell, Event}
use Rattle.circuit_model.specs.Log.{Log, Message, closing, is_closed, no_effects}
use Rattle.circuit_model.specs.NextHop.{leg_count}
use Rattle.circuit_model.specs.Received.{message_at}
use Rattle.circuit_model.specs.Rules.{Rules}
use Rattle.circuit_model.specs.Sent.{sent_to_hop}
use Rattle.circuit_model.specs.Words.{log}
use Rattle.circuit_model.specs.declared.event.Event.TheVariants.{Failed}
use Rattle.switch_model.proofs.Common.{not_equal, self_eq}
use Rattle.switch_model.proofs.Others.{other_pasts}
use Rattle.switch_model.specs.History.Channels.{channel_at, channels}
use Rattle.switch_model.specs.History.Circuit.{events, is_live_circuit, sent}
use Rattle.switch_model.specs.History.EdgePast.{edge_past}
use Rattle.switch_model.specs.History.Legs.{holds_id, port}
use Rattle.switch_model.specs.History.Past.{past}
use Rattle.switch_model.specs.Legal.{IsRightStep}
use Rattle.switch_model.specs.Start.{SwitchStart}
use Rattle.switch_model.specs.Waiting.Lanes.{lane}
use Rattle.switch_model.specs.Waiting.Queues.{sealed_count, sendable}
use Rattle.tor_spec.specs.Reasons.{destroy_connect_failed}
use Rattle.tr_io.specs.declared.answers.DialAnswer.{DialAnswer}
use Rattle.tr_io.specs.declared.dials.DialOutcome.{DialOutcome}
use Rattle.tr_io.specs.declared.dials.DialStep.{DialStep}
use Rattle.tr_io.specs.declared.step.Step.{Step}
use Rattle.tr_io.specs.declared.step.Step.TheVariants.{DialDone}
use Rattle.switch_machine.proofs.OneCircuit.{circuit-own}
use Rattle.switch_machine.proofs.OtherEdges.{other_edges}
use Rattle.switch_machine.proofs.Slots.{slot_at-inside}
use Rattle.switch_machine.proofs.StepAlone.{step-alone}
use Rattle.switch_machine.proofs.TearDown.By.{torn-by}
use Rattle.switch_machine.specs.Calls.DialDone.{failed_state}
use Rattle.switch_machine.specs.Calls.TearDown.{torn_state}
use Rattle.switch_machine.specs.Machine.{counted}
use Rattle.switch_machine.specs.Stands.{Stands}
use Rattle.switch_machine.specs.Stands.OneCircuit.{CircuitStands}
use Rattle.switch_machine.specs.Stands.OneLeg.{LegBy}
use Rattle.switch_machine.specs.State.{CircuitState, State, slot_at}

-- no channel comes up
abbrev pub is_up : DialAnswer → Bool
is_up (DialAnswer.Up n) = true
is_up a = false

count-same : (h : List Step) (given_order : DialStep) (outcome : DialOutcome) (a : DialAnswer) → is_up a ≡ false →
    channels (DialDone given_order outcome a ∷ h) ≡ channels h
count-same h given_order (DialOutcome.Opened slot) (DialAnswer.Up n) none = absurd cc
count-same h given_order (DialOutcome.Opened slot) (DialAnswer.Closed reason) none = refl
count-same h given_order (DialOutcome.Opened slot) (DialAnswer.Full limit) none = refl
count-same h given_order (DialOutcome.Opened slot) DialAnswer.Gone none = refl
count-same h given_order (DialOutcome.Opened slot) DialAnswer.Memory none = refl
count-same h given_order (DialOutcome.Over chan) a none = refl
count-same h given_order DialOutcome.Failed a none = refl

channel-same : (h : List Step) (given_order : DialStep) (outcome : DialOutcome) (a : DialAnswer) (m : ℕ) → is_up a ≡ false →
    channel_at (DialDone given_order outcome a ∷ h) m ≡ channel_at h m
channel-same h given_order (DialOutcome.Opened slot) (DialAnswer.Up n) m none = absurd cc
channel-same h given_order (DialOutcome.Opened slot) (DialAnswer.Closed reason) m none = refl
channel-same h given_order (DialOutcome.Opened slot) (DialAnswer.Full limit) m none = refl
channel-same h given_order (DialOutcome.Opened slot) DialAnswer.Gone m none = refl
channel-same h given_order (DialOutcome.Opened slot) DialAnswer.Memory m none = refl
channel-same h given_order (DialOutcome.Over chan) a m none = refl
channel-same h given_order DialOutcome.Failed a m none = refl

-- the order isn't out
pub gone-kept : (start : SwitchStart) (s : State) (h : List Step) (given_order : DialStep) (outcome : DialOutcome) →
    IsRightStep start h (DialDone given_order outcome DialAnswer.Gone) → Stands start s h →
    Stands start (counted s) (DialDone given_order outcome DialAnswer.Gone ∷ h)
gone-kept start s h given_order (DialOutcome.Opened slot) right st = step-alone start s h (DialDone given_order
    (DialOutcome.Opened slot) DialAnswer.Gone) refl right st
gone-kept start s h given_order (DialOutcome.Over chan) right st = step-alone start s h (DialDone given_order
    (DialOutcome.Over chan) DialAnswer.Gone) refl right st
gone-kept start s h given_order DialOutcome.Failed right st = step-alone start s h
    (DialDone given_order DialOutcome.Failed DialAnswer.Gone) refl right st

-- the circuit is torn down

if-none : (b : Bool) (xs : List CircuitCell) → xs ++ (if b then [] else []) ≡ xs
if-none true xs = append-nil xs
if-none false xs = append-nil xs

quiet-by : (l : Log) (m : Option Message) (b : Bool) (n k : ℕ) →
    sendable (record { event = Failed; message = m; effects = if b then no_effects else closing destroy_connect_failed } ∷
    l) n k ≡ sendable l n k
quiet-by l m true n zero = refl
quiet-by l m false n zero = refl
quiet-by l m true n (suc k) = rw (eqb-suc-zero k) (if-none (leg_count l == suc k) (sent_to_hop l (suc k)))
quiet-by l m false n (suc k) = rw (eqb-suc-zero k) (if-none (leg_count l == suc k) (sent_to_hop l (suc k)))

quiet-failed : (rules : Rules) (ev : List Event) (n k : ℕ) → sendable (log rules (Failed ∷ ev)) n k ≡ sendable (log rules ev) n k
unfolding open_effects
quiet-failed rules ev n k = quiet-by (log rules ev) (message_at (log rules ev) Failed) (is_closed (log rules ev)) n k

pub closed-kept : (start : SwitchStart) (s : State) (h : List Step) (given_order : DialStep) (outcome : DialOutcome) (reason : ℕ)
    (x : CircuitState) → Stands start s h → slot_at s.circuits given_order.circ.0 ≡ Some x →
    IsRightStep start h (DialDone given_order outcome (DialAnswer.Closed reason)) →
    Stands start (failed_state start.rules (events start.rules h given_order.circ.0) s given_order.circ.0 reason x)
    (DialDone given_order outcome
    (DialAnswer.Closed reason) ∷ h)
closed-kept start s h given_order outcome reason x st found right =
    let rules = start.rules in
    let c = given_order.circ.0 in
    let step = DialDone given_order outcome (DialAnswer.Closed reason) in
    let own : CircuitStands rules s.last_closes x c (past rules h c) (λ j. holds_id h c j) (edge_past rules h c) =
    circuit-own rules s.last_closes s.circuits (λ d. past rules h d) (λ d j. holds_id h d j) (λ d.
    edge_past rules h d) c x found st.circuits in
    let alive : is_live_circuit rules h c ≡ true = own.live in
    let inside = slot_at-inside s.circuits c x found in
    let told : events rules (step ∷ h) c ≡ Failed ∷ events rules h c = rw (self_eq c) refl in
    subst (λ ev. Stands start (torn_state rules ev (counted s) c reason x) (step ∷ h)) told (torn-by start s
    (counted s) h step c reason x (λ m. lane rules h m) st (record {
      said = right;
      steps = omega (arith, st.steps.count_is);
      numbers = record {
        channels = st.numbers.channels ∙ sym (count-same h given_order outcome (DialAnswer.Closed reason) refl);
        circuits = st.numbers.circuits;
        claims = st.numbers.claims;
        bodies = st.numbers.bodies;
        dial_orders = st.numbers.dial_orders;
        tick = st.numbers.tick;
      };
      channels = record {
        channel = λ m. rw (channel-same h given_order outcome (DialAnswer.Closed reason) m refl)
            (st.channels.channel m);
        no_channel = st.channels.no_channel;
      };
      others = λ d other. rw (other_pasts rules h step d (rw other refl), other_edges rules h step d (rw other refl) refl)
          (st.circuits.circuit d);
      fresh = λ d beyond.
          let other = not_equal c d (λ same. absurd (omega (arith, beyond, inside, same))) in
          rw (other_pasts rules h step d (rw other refl), other_edges rules h step d (rw other refl) refl)
          (st.circuits.fresh d beyond);
      ids = st.ids;
      legs_stand = st.legs;
      dials = st.dials;
      counts = st.counts;
      slots = st.slots;
      not_yet = st.not_yet;
      found = found;
      legs = λ k. rw told (subst (λ cells. LegBy (slot_at x.legs k) (sent rules h c k) cells (port h c k) (holds_id h c k)) (sym
          (quiet-failed rules (events rules h c) (sealed_count h c) k)) (own.legs k));
      left = λ serial. own.no_left serial ∙ rw (st.not_yet.unreached c serial) refl;
      lane = λ m. rw (alive, own.hops) refl;
      dead = rw (self_eq c) refl;
    }))

pub full-kept : (start : SwitchStart) (s : State) (h : List Step) (given_order : DialStep) (outcome : DialOutcome) (limit : ℕ)
    (x : CircuitState) → Stands start s h → slot_at s.circuits given_order.circ.0 ≡ Some x →
    IsRightStep start h (DialDone given_order outcome (DialAnswer.Full limit)) →
    Stands start
    (failed_state start.rules (events start.rules h given_order.circ.0) s given_order.circ.0 destroy_connect_failed x)
    (DialDone given_order outcome (DialAnswer.Full limit) ∷ h)
full-kept start s h given_order outcome limit x st found right =
    let rules = start.rules in
    let c = given_order.circ.0 in
    let step = DialDone given_order outcome (DialAnswer.Full limit) in
    let own : CircuitStands rules s.last_closes x c (past rules h c) (λ j. holds_id h c j) (edge_past rules h c) =
    circuit-own rules s.last_closes s.circuits (λ d. past rules h d) (λ d j. holds_id h d j) (λ d.
    edge_past rules h d) c x found st.circuits in
    let alive : is_live_circuit rules h c ≡ true = own.live in
    let inside = slot_at-inside s.circuits c x found in
    let told : events rules (step ∷ h) c ≡ Failed ∷ events rules h c = rw (self_eq c) refl in
    subst (λ ev. Stands start (torn_state rules ev (counted s) c destroy_connect_failed x) (step ∷ h)) told (torn-by start s
    (counted s) h step c destroy_connect_failed x (λ m. lane rules h m) st (record {
      said = right;
      steps = omega (arith, st.steps.count_is);
      numbers = record {
        channels = st.numbers.channels ∙ sym (count-same h given_order outcome (DialAnswer.Full limit) refl);
        circuits = st.numbers.circuits;
        claims = st.numbers.claims;
        bodies = st.numbers.bodies;
        dial_orders = st.numbers.dial_orders;
        tick = st.numbers.tick;
      };
      channels = record {
        channel = λ m. rw (channel-same h given_order outcome (DialAnswer.Full limit) m refl)
            (st.channels.channel m);
        no_channel = st.channels.no_channel;
      };
      others = λ d other. rw (other_pasts rules h step d (rw other refl), other_edges rules h step d (rw other refl) refl)
          (st.circuits.circuit d);
      fresh = λ d beyond.
          let other = not_equal c d (λ same. absurd (omega (arith, beyond, inside, same))) in
          rw (other_pasts rules h step d (rw other refl), other_edges rules h step d (rw other refl) refl)
          (st.circuits.fresh d beyond);
      ids = st.ids;
      legs_stand = st.legs;
      dials = st.dials;
      counts = st.counts;
      slots = st.slots;
      not_yet = st.not_yet;
      found = found;
      legs = λ k. rw told (subst (λ cells. LegBy (slot_at x.legs k) (sent rules h c k) cells (port h c k) (holds_id h c k)) (sym
          (quiet-failed rules (events rules h c) (sealed_count h c) k)) (own.legs k));
      left = λ serial. own.no_left serial ∙ rw (st.not_yet.unreached c serial) refl;
      lane = λ m. rw (alive, own.hops) refl;
      dead = rw (self_eq c) refl;
    }))
