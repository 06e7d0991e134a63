-- A switch on which the forward bodies of a circuit's claim came home.
use Rattle.std.proofs.Common.{◌≡◌, ℕ, ◌+◌, ◌*◌, ◌≤◌, ◌<◌, Bool, true, false, if◌then◌else◌, List, [], ◌∷◌, length, is_some, get_or, Option, Some, None, IfSome, refl, sym, ◌∙◌, ap, subst, arith, zero, suc}
use Rattle.std.specs.Prelude.{IsTrue}
use Rattle.circ_relay.specs.declared.circuit.Circuit.{Circuit as RelayCircuit}
use Rattle.circuit_model.specs.Events.{Event}
use Rattle.circuit_model.specs.Rules.{Rules}
use Rattle.relay_cell.specs.declared.head.Opened.{Opened}
use Rattle.tr_io.specs.declared.answers.BackAnswer.{BackAnswer}
use Rattle.switch_model.specs.Answers.GiveBack.{done_by}
use Rattle.switch_model.specs.History.Returns.{settled}
use Rattle.switch_machine.specs.Calls.GiveBack.{home_way, settle_all, settled_home, settled_state}
use Rattle.switch_machine.specs.Calls.Settling.{Settling, unsettled}
use Rattle.switch_machine.specs.Calls.TearDown.{torn_state, tear_down_state_of, tear_down_result_of}
use Rattle.switch_machine.specs.Machine.{again_with, counted, is_handed_out, kept_cells}
use Rattle.switch_machine.specs.State.{DialState, ChannelState, CircuitState, State, slot_at, with_slot}
use Rattle.switch_machine.proofs.Slots.{slot_at-with, slot_at-inside}
use Rattle.switch_model.proofs.Common.{self_eq}
use Rattle.switch_core.specs.Meaning.{StepsFit, state_of}
use Rattle.switch_core.specs.Settling.{SettlesForth, Settles, SlotSettles, finished_answer, finished_state, settled_all, settling_of}
use Rattle.switch_core.specs.declared.counters.Counters.{Counters}
use Rattle.switch_core.proofs.Leaves.{circuit_at}
use Rattle.switch_core.proofs.Taken.{taken_count}

-- the next numbers are those of the switch
same-start : (s : State) (x : CircuitState) (k : Counters) (events : List Event) → k.bodies ≡ s.bodies
    → k.dial_orders ≡ s.dial_orders → settling_of x k events ≡ unsettled events s x
same-start s x k events bodies dials = rw (bodies, dials) refl

none-again_by : (b : Bool) → ◌≡◌ {A = List ℕ} (if b then [] else []) []
none-again_by true = refl
none-again_by false = refl

none-again : (c : ℕ) (dial : Option DialState) → again_with c dial [] ≡ []
none-again c dial = none-again_by (is_handed_out dial)

-- the circuit behind a batch, in the switch
behind-batch : (rules : Rules) (events : List Event) (s : State) (c : ℕ) (x x' : CircuitState) (k next : Counters)
    (relay : RelayCircuit) (reason : Option ℕ) → s.again ≡ [] → k.bodies ≡ s.bodies → k.dial_orders ≡ s.dial_orders →
    SettlesForth rules events x x' k next relay reason →
    record (counted s) { bodies = next.bodies; dial_orders = next.dial_orders; circuits = with_slot s.circuits c (Some x') }
    ≡ settled_state rules events s c x (kept_cells x.forth.claim_out)
behind-batch rules events s c x x' k next relay reason again bodies dials settles =
    let start = same-start s x k events bodies dials in
    rw (
      sym start,
      settles.circuit,
      settles.bodies,
      settles.dials,
      again,
      none-again c (settled_all rules events x k).circuit.dial,
    ) refl

put-there : (s : State) (c : ℕ) (x y : CircuitState) → slot_at s.circuits c ≡ Some x
    → slot_at (with_slot s.circuits c (Some y)) c ≡ Some y
put-there s c x y live = slot_at-with s.circuits c (Some y) c (slot_at-inside s.circuits c x live)
    ∙ ap (λ b. if b then Some y else slot_at s.circuits c) (self_eq c)

circuit-is : (rules : Rules) (events : List Event) (s : State) (x x' : CircuitState) (k next : Counters) (relay : RelayCircuit)
    (reason : Option ℕ) → k.bodies ≡ s.bodies → k.dial_orders ≡ s.dial_orders →
    SettlesForth rules events x x' k next relay reason → (settled_home rules events s x (kept_cells x.forth.claim_out)).circuit
    ≡ x'
circuit-is rules events s x x' k next relay reason bodies dials settles =
    ap {A = Settling} (λ y. record (settle_all rules y (kept_cells x.forth.claim_out)).circuit { forth = home_way x.forth })
    (sym (same-start s x k events bodies dials)) ∙ sym settles.circuit

pub settles_none : (rules : Rules) (events : List Event) (s mid fin new : State) (c : ℕ) (x x' : CircuitState) (k next : Counters)
    (relay : RelayCircuit) (a : BackAnswer) → s.again ≡ [] → k.bodies ≡ s.bodies → k.dial_orders ≡ s.dial_orders →
    SettlesForth rules events x x' k next relay None → mid ≡ record s { circuits = with_slot s.circuits c (Some x') }
    → fin ≡ counted mid → a ≡ BackAnswer.Settled → new ≡ record fin { bodies = next.bodies; dial_orders = next.dial_orders } →
    Settles rules events s new c x relay a
settles_none rules events s mid fin new c x x' k next relay a again bodies dials settles put counted_is said is =
    rw said (record {
      answer_is = ap done_by settles.reason_is;
      state = is ∙ rw (counted_is, put) (behind-batch rules events s c x x' k next relay None again bodies dials settles);
      relay_is = λ same. settles.relay_is refl;
    })

pub settles_some : (rules : Rules) (events : List Event) (s mid fin new : State) (c reason : ℕ) (x x' : CircuitState)
    (k next : Counters) (relay : RelayCircuit) (a : BackAnswer) → slot_at s.circuits c ≡ Some x → s.again ≡ []
    → k.bodies ≡ s.bodies → k.dial_orders ≡ s.dial_orders →
    SettlesForth rules events x x' k next relay (Some reason) → mid ≡ record s { circuits = with_slot s.circuits c (Some x') } →
    fin ≡ tear_down_state_of rules (settled rules x.sent_count events (kept_cells x.forth.claim_out)) mid c reason
    (slot_at mid.circuits c) → a ≡ tear_down_result_of (slot_at mid.circuits c) reason →
    new ≡ record fin { bodies = next.bodies; dial_orders = next.dial_orders } → Settles rules events s new c x relay a
settles_some rules events s mid fin new c reason x x' k next relay a live again bodies dials settles put torn said is =
    let there : slot_at mid.circuits c ≡ Some x' = ap (λ (t : State). slot_at t.circuits c) put ∙ put-there s c x x' live in
    let down : a ≡ BackAnswer.Down reason = said ∙ ap (λ y. tear_down_result_of y reason) there in
    let behind = behind-batch rules events s c x x' k next relay (Some reason) again bodies dials settles in
    let circuit = circuit-is rules events s x x' k next relay (Some reason) bodies dials settles in
    let gone : fin ≡ torn_state rules (settled rules x.sent_count events (kept_cells x.forth.claim_out)) (counted mid) c reason
    x' = torn ∙ ap
    (λ y. tear_down_state_of rules (settled rules x.sent_count events (kept_cells x.forth.claim_out)) mid c reason y) there in
    rw down (record {
      answer_is = ap done_by settles.reason_is;
      state =
          is
          ∙ ap {A = State} (λ f. record f { bodies = next.bodies; dial_orders = next.dial_orders }) gone
          ∙ ap {A = State}
          (λ m. record
          (torn_state rules (settled rules x.sent_count events (kept_cells x.forth.claim_out)) (counted m) c reason x')
          { bodies = next.bodies; dial_orders = next.dial_orders }) put
          ∙ ap (λ t. torn_state rules (settled rules x.sent_count events (kept_cells x.forth.claim_out)) t c reason x') behind
          ∙ ap (λ y. torn_state rules (settled rules x.sent_count events (kept_cells x.forth.claim_out))
          (settled_state rules events s c x (kept_cells x.forth.claim_out)) c reason y) (sym circuit);
      relay_is = λ same. cc;
    })

-- what the counts are behind it

torn-steps : (rules : Rules) (events : List Event) (s : State) (c reason : ℕ) (x : Option CircuitState)
    → (tear_down_state_of rules events s c reason x).steps ≡ s.steps + 1
torn-steps rules events s c reason None = refl
torn-steps rules events s c reason (Some x) = refl

pub finished_steps : (rules : Rules) (ev : ℕ → List Event) (s : State) (c : ℕ) (reason : Option ℕ)
    → (finished_state rules ev s c reason).steps ≡ s.steps + 1
finished_steps rules ev s c None = refl
finished_steps rules ev s c (Some reason) = torn-steps rules (ev c) s c reason (slot_at s.circuits c)

pub fits_settled : (k : Counters) (channels : List ChannelState) (circuits : List (Option CircuitState)) (bodies dials steps : ℕ)
    → StepsFit k channels circuits → bodies ≤ 33 * steps + 32 → dials ≤ 32 * steps + 32 → k.steps ≡ steps + 1 →
    StepsFit (record k { bodies = bodies; dial_orders = dials }) channels circuits
fits_settled k channels circuits bodies dials steps old few some is = record {
  lanes = old.lanes;
  taken = old.taken;
  bodies_fit = omega (arith, few, is);
  claims_fit = old.claims_fit;
  dials_fit = omega (arith, some, is);
}

some-fits : (n : ℕ) (x : Option CircuitState) (y : CircuitState) → x ≡ Some y → taken_count y ≤ n
    → IfSome x (λ z. taken_count z ≤ n)
some-fits n None y is fits = tt
some-fits n (Some z) y is fits = let same : z ≡ y = cc in subst (λ (w : CircuitState). taken_count w ≤ n) (sym same) fits

had-fits : (n : ℕ) (x : Option CircuitState) (y : CircuitState) → x ≡ Some y → IfSome x (λ z. taken_count z ≤ n)
    → taken_count y ≤ n
had-fits n None y is fits = cc
had-fits n (Some z) y is fits = let same : z ≡ y = cc in subst (λ (w : CircuitState). taken_count w ≤ n) same fits

-- a circuit that settles took no body
pub settled_fits : (n : ℕ) (rules : Rules) (old new : Option CircuitState) (k next : Counters) (first relay : RelayCircuit)
    (opened_bodies : List Opened) (reason : Option ℕ) → SlotSettles rules old new k next first relay opened_bodies reason →
    IfSome old (λ y. taken_count y ≤ n) → IfSome new (λ y. taken_count y ≤ n)
settled_fits n rules old new k next first relay opened_bodies reason settles fits =
    some-fits n new settles.behind_it settles.stays
    (let had : taken_count settles.circuit ≤ n = had-fits n old settles.circuit settles.live fits in
    omega (arith, had, settles.taken))

pub some_is : (x : Option CircuitState) (a b : CircuitState) → x ≡ Some a → x ≡ Some b → a ≡ b
some_is x a b is other = let same : Some a ≡ Some b = sym is ∙ other in cc

pub is_inside : {A : Type 0} (slots : List (Option A)) (c : ℕ) → IsTrue (is_some (slot_at slots c)) → c < length slots
unfolding slot_at
is_inside [] c live = absurd cc
is_inside (x ∷ slots) zero live = omega arith
is_inside (x ∷ slots) (suc c) live = let rest : c < length slots = is_inside slots c live in omega (arith, rest)

-- by whether one of them closed
pub settles_by : (rules : Rules) (events : List Event) (s mid fin new : State) (c : ℕ) (x x' : CircuitState) (k next : Counters)
    (relay : RelayCircuit) (reason : Option ℕ) (a : BackAnswer) → slot_at s.circuits c ≡ Some x → s.again ≡ []
    → k.bodies ≡ s.bodies → k.dial_orders ≡ s.dial_orders →
    SettlesForth rules events x x' k next relay reason → mid ≡ record s { circuits = with_slot s.circuits c (Some x') }
    → fin ≡ finished_state rules (λ n. settled rules x.sent_count events (kept_cells x.forth.claim_out)) mid c reason →
    a ≡ finished_answer mid c reason → new ≡ record fin { bodies = next.bodies; dial_orders = next.dial_orders }
    → Settles rules events s new c x relay a
settles_by rules events s mid fin new c x x' k next relay None a live again bodies dials settles put finished said is =
    settles_none rules events s mid fin new c x x' k next relay a again bodies dials settles put finished said is
settles_by rules events s mid fin new c x x' k next relay (Some reason) a live again bodies dials settles put finished said is =
    settles_some rules events s mid fin new c reason x x' k next relay a live again bodies dials settles put finished said is

-- the circuit at a place of the list
pub live_slot : (k : Counters) (channels : List ChannelState) (circuits : List (Option CircuitState)) (s : State) (c : ℕ)
    (x : Option CircuitState) → state_of k channels circuits ≡ s → IsTrue (is_some (slot_at s.circuits c))
    → x ≡ get_or circuits c x → slot_at s.circuits c ≡ x
live_slot k channels circuits s c x is live at = circuit_at k channels circuits s c x is (is_inside s.circuits c live) ∙ sym at
