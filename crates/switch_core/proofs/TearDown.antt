-- tear_down: what the lists are behind it, and the step that it adds.
use Rattle.std.proofs.Common.{◌≡◌, ℕ, ◌+◌, ◌++◌, ◌==◌, ◌<◌, ◌≤◌, Bool, true, false, if◌then◌else◌, List, [], ◌∷◌, length, get_or, Option, Some, None, refl, sym, ◌∙◌, ap, subst, IfSome, IfNone, slice_set, append-nil, length-append, arith, zero, suc}
use Rattle.std.proofs.lemmas.Bool.Decides.{nat_tests}
use Rattle.circuit_model.specs.Events.{Event}
use Rattle.circuit_model.specs.Rules.{Rules}
use Rattle.tr_io.specs.declared.answers.BackAnswer.{BackAnswer}
use Rattle.tr_io.specs.declared.names.CircNo.{CircNo}
use Rattle.tr_io.specs.declared.step.Step.{Step}
use Rattle.tr_io.specs.declared.step.Step.TheVariants.{TearDown}
use Rattle.switch_model.specs.History.Circuit.{is_live_circuit, events}
use Rattle.switch_model.specs.Answers.EdgeOut.{Ordered}
use Rattle.switch_model.specs.History.EdgePast.{EdgePast, edge_past}
use Rattle.switch_model.specs.History.Legs.{circuits, holds_id}
use Rattle.switch_model.specs.History.Past.{Past, past}
use Rattle.switch_model.specs.Start.{SwitchStart}
use Rattle.switch_model.specs.Waiting.Lanes.{Destroy}
use Rattle.switch_model.proofs.Common.{self_eq}
use Rattle.switch_model.proofs.Others.{other_pasts}
use Rattle.switch_machine.specs.Adds.{AddsTo}
use Rattle.switch_machine.specs.Calls.TearDown.{destroy_of, with_lanes, tear_down_result, tear_down_result_of, tear_down_state}
use Rattle.switch_machine.specs.Machine.{counted}
use Rattle.switch_machine.specs.State.{ChannelState, LegState, CircuitState, State, slot_at, with_slot, all_there}
use Rattle.switch_machine.specs.Stands.OneCircuit.{CircuitAt}
use Rattle.switch_machine.proofs.TearDown.Law.{tear_down_adds}
use Rattle.switch_core.specs.Meaning.{state_of, OfLeg, TakenOut}
use Rattle.switch_core.specs.declared.counters.Counters.{Counters}
use Rattle.switch_core.specs.Opened.{Forgets}
use Rattle.switch_core.specs.Relays.{RelaysStand}
use Rattle.switch_core.specs.Started.{SwitchAdds}
use Rattle.switch_core.specs.declared.relay.Relay.{Relay}
use Rattle.switch_core.proofs.Relays.{relays_torn}
use Rattle.switch_machine.proofs.PlainLists.{with_slot-all_there}
use Rattle.switch_machine.proofs.Slots.{slot_at-past}
use Rattle.switch_core.proofs.Gone.{with-same}
use Rattle.switch_core.proofs.Leaves.{circuit_put, circuit_read}
use Rattle.switch_core.proofs.Whole.{started}

-- the DESTROY of one leg enters the lane of its channel

abbrev pub with_more : ChannelState → List Destroy → ChannelState
with_more channel more = record channel { lane = channel.lane ++ more }

abbrev pub one_destroy : LegState → ℕ → List Destroy
one_destroy leg reason = record { id = leg.id; reason = reason; refusal = false } ∷ []

put-if : (b : Bool) (more : List Destroy) → b ≡ true → (if b then more else []) ≡ more
put-if true more is = refl
put-if false more is = absurd cc

none-if : (b : Bool) (more : List Destroy) → b ≡ false → (if b then more else []) ≡ []
none-if true more is = absurd cc
none-if false more is = refl

put-here : (n reason : ℕ) (leg : LegState) → leg.chan ≡ n → destroy_of n reason (Some leg) ≡ one_destroy leg reason
put-here n reason leg here = put-if (leg.chan == n) (one_destroy leg reason) (grind (arith, nat_tests))

put-not : (n reason : ℕ) (leg : LegState) → (leg.chan ≡ n → ⊥) → destroy_of n reason (Some leg) ≡ []
put-not n reason leg away = none-if (leg.chan == n) (one_destroy leg reason) (grind (arith, nat_tests))

unchanged : (channel : ChannelState) (more : List Destroy) → more ≡ [] → with_more channel more ≡ channel
unchanged channel more none = rw (none, append-nil) refl

-- a leg whose channel is before the list or behind it
far : (leg : LegState) (reason n : ℕ) (channels : List ChannelState) → ((i : ℕ) → i < length channels → leg.chan ≡ n + i → ⊥) →
    with_lanes (λ m. destroy_of m reason (Some leg)) n (all_there channels) ≡ all_there channels
far leg reason n [] away = refl
far leg reason n (channel ∷ channels) away =
    ap (λ x. Some x ∷ with_lanes (λ m. destroy_of m reason (Some leg)) (n + 1) (all_there channels))
    (unchanged channel _ (put-not n reason leg (λ is. away 0 (omega arith) (omega arith))))
    ∙ ap (λ l. Some channel ∷ l) (far leg reason (n + 1) channels (λ i below is. away (suc i) (omega arith) (omega arith)))

near : (leg : LegState) (reason n i : ℕ) (channels : List ChannelState) (d : ChannelState) → i < length channels
    → leg.chan ≡ n + i →
    with_lanes (λ m. destroy_of m reason (Some leg)) n (all_there channels)
    ≡ with_slot (all_there channels) i (Some (with_more (get_or channels i d) (one_destroy leg reason)))
unfolding with_slot
near leg reason n i [] d below is = absurd (omega arith)
near leg reason n zero (channel ∷ channels) d below is =
    ap (λ more. Some (with_more channel more) ∷ with_lanes (λ m. destroy_of m reason (Some leg)) (n + 1) (all_there channels))
    (put-here n reason leg (omega arith))
    ∙ ap (λ l. Some (with_more channel (one_destroy leg reason)) ∷ l)
    (far leg reason (n + 1) channels (λ j inside at. omega arith))
near leg reason n (suc i) (channel ∷ channels) d below is =
    ap (λ x. Some x ∷ with_lanes (λ m. destroy_of m reason (Some leg)) (n + 1) (all_there channels))
    (unchanged channel _ (put-not n reason leg (λ at. omega arith)))
    ∙ ap (λ l. Some channel ∷ l) (near leg reason (n + 1) i channels d (omega arith) (omega arith))

pub no_lane : (leg : LegState) (reason : ℕ) (channels : List ChannelState) → length channels ≤ leg.chan
    → with_lanes (λ m. destroy_of m reason (Some leg)) 0 (all_there channels) ≡ all_there channels
no_lane leg reason channels beyond = far leg reason 0 channels (λ i below is. omega arith)

pub one_lane : (leg : LegState) (reason n : ℕ) (channels : List ChannelState) (d : ChannelState) → leg.chan ≡ n
    → n < length channels →
    with_lanes (λ m. destroy_of m reason (Some leg)) 0 (all_there channels) ≡ with_slot (all_there channels) n
    (Some (with_more (get_or channels n d) (one_destroy leg reason)))
one_lane leg reason n channels d at inside = near leg reason 0 n channels d inside (omega (arith, at))

-- the lists behind it

pub put_none : (k : Counters) (channels : List ChannelState) (circuits : List (Option CircuitState)) (s : State) (leg : LegState)
    (reason : ℕ) → state_of k channels circuits ≡ s → length channels ≤ leg.chan →
    state_of (record k { steps = k.steps + 1 }) channels circuits
    ≡ record (counted s) { channels = with_lanes (λ n. destroy_of n reason (Some leg)) 0 s.channels }
put_none k channels circuits s leg reason is beyond =
    ap {A = List (Option ChannelState)} (λ l. record (counted (state_of k channels circuits)) { channels = l })
    (sym (no_lane leg reason channels beyond))
    ∙ ap {A = State} (λ x. record (counted x) { channels = with_lanes (λ n. destroy_of n reason (Some leg)) 0 x.channels }) is

pub put_one : (k : Counters) (channels : List ChannelState) (circuits : List (Option CircuitState)) (s : State) (leg : LegState)
    (reason n : ℕ) (d new : ChannelState) → state_of k channels circuits ≡ s → leg.chan ≡ n → n < length channels →
    new ≡ with_more (get_or channels n d) (one_destroy leg reason)
    → state_of (record k { steps = k.steps + 1 }) (slice_set channels n new) circuits
    ≡ record (counted s) { channels = with_lanes (λ m. destroy_of m reason (Some leg)) 0 s.channels }
put_one k channels circuits s leg reason n d new is at inside put =
    ap {A = List (Option ChannelState)} (λ l. record (counted (state_of k channels circuits)) { channels = l })
    (sym (with_slot-all_there channels n new) ∙ ap (λ x. with_slot (all_there channels) n (Some x)) put
    ∙ sym (one_lane leg reason n channels d at inside))
    ∙ ap {A = State} (λ x. record (counted x) { channels = with_lanes (λ m. destroy_of m reason (Some leg)) 0 x.channels }) is

pub longer_by : (old new : ChannelState) (more : List Destroy) (leg : LegState) (reason : ℕ) → new ≡ with_more old more
    → more ≡ one_destroy leg reason → length new.lane ≤ length old.lane + 1
longer_by old new more leg reason is one =
    let long : length new.lane ≡ length (old.lane ++ one_destroy leg reason) =
    ap (λ (x : ChannelState). length x.lane) is ∙ ap (λ l. length (old.lane ++ l)) one in
    omega (arith, long, length-append old.lane (one_destroy leg reason))

-- a circuit that is taken out

pub out_far : (k : Counters) (channels : List ChannelState) (circuits : List (Option CircuitState)) (s : State) (c : ℕ)
    → state_of k channels circuits ≡ s → length circuits ≤ c → slot_at s.circuits c ≡ None
out_far k channels circuits s c is far = ap (λ (x : State). slot_at x.circuits c) (sym is) ∙ slot_at-past circuits c far

found-at : (k : Counters) (channels : List ChannelState) (circuits : List (Option CircuitState)) (s : State) (c : ℕ)
    (old o : Option CircuitState) → state_of k channels circuits ≡ s → c < length circuits →
    old ≡ get_or circuits c old → o ≡ old → slot_at s.circuits c ≡ o
found-at k channels circuits s c old o is below at same = circuit_read k channels circuits s c old is below at ∙ sym same

pub out_some : (k : Counters) (channels : List ChannelState) (circuits : List (Option CircuitState)) (s : State) (c : ℕ)
    (old o new : Option CircuitState) → state_of k channels circuits ≡ s → c < length circuits →
    old ≡ get_or circuits c old → o ≡ old → new ≡ None
    → IfSome o (λ x. TakenOut s (state_of k channels (slice_set circuits c new)) c x)
out_some k channels circuits s c old None new is below at same none = tt
out_some k channels circuits s c old (Some x) new is below at same none = record {
  live = found-at k channels circuits s c old (Some x) is below at same;
  left = circuit_put k channels circuits s c new is
      ∙ ap (λ (y : Option CircuitState). record s { circuits = with_slot s.circuits c y }) none;
  again = ap (λ (y : State). y.again) (sym is);
}

pub out_none : (k : Counters) (channels : List ChannelState) (circuits : List (Option CircuitState)) (s : State) (c : ℕ)
    (old o new : Option CircuitState) → state_of k channels circuits ≡ s → c < length circuits →
    old ≡ get_or circuits c old → o ≡ old → new ≡ None
    → IfNone o ((slot_at s.circuits c ≡ None) × (state_of k channels (slice_set circuits c new) ≡ s))
out_none k channels circuits s c old (Some x) new is below at same none = tt
out_none k channels circuits s c old None new is below at same none =
    let gone : slot_at s.circuits c ≡ None = found-at k channels circuits s c old None is below at same in (
      gone,
      circuit_put k channels circuits s c new is
          ∙ ap (λ (y : Option CircuitState). record s { circuits = with_slot s.circuits c y }) (none ∙ sym gone)
          ∙ ap {A = List (Option CircuitState)} (λ l. record s { circuits = l }) (with-same s.circuits c),
    )

-- the machine's call

pub gone_state : (rules : Rules) (ev : ℕ → List Event) (s : State) (c reason : ℕ) → slot_at s.circuits c ≡ None
    → counted s ≡ tear_down_state rules ev s c reason
gone_state rules ev s c reason none = rw none refl

pub gone_result : (s : State) (c reason : ℕ) → slot_at s.circuits c ≡ None → BackAnswer.Gone ≡ tear_down_result s c reason
gone_result s c reason none = rw none refl

pub torn_result : (s mid : State) (c reason : ℕ) (x : CircuitState) → TakenOut s mid c x
    → BackAnswer.Down reason ≡ tear_down_result s c reason
torn_result s mid c reason x out = rw out.live refl

pub torn_one : (rules : Rules) (ev : ℕ → List Event) (s mid new : State) (c reason : ℕ) (x : CircuitState) (leg : LegState)
    → TakenOut s mid c x → OfLeg x leg →
    new ≡ record (counted mid) { channels = with_lanes (λ n. destroy_of n reason (Some leg)) 0 mid.channels }
    → new ≡ tear_down_state rules ev s c reason
unfolding slot_at
torn_one rules ev s mid new c reason x leg out of put = put ∙ rw (out.left, out.live, of.is, out.again) refl

-- the step

stays-live : (rules : Rules) (h : List Step) (c asked reason : ℕ)
    → is_live_circuit rules (TearDown (record { 0 = c }) asked (BackAnswer.Down reason) ∷ h) c ≡ false
stays-live rules h c asked reason = simp (self_eq c)

other-past : (rules : Rules) (h : List Step) (circ : CircNo) (asked reason d : ℕ) → (d == circ.0) ≡ false
    → past rules (TearDown circ asked (BackAnswer.Down reason) ∷ h) d ≡ past rules h d
other-past rules h circ asked reason d other =
    let apart : (circ.0 == d) ≡ false = grind (arith, nat_tests) in
    other_pasts rules h (TearDown circ asked (BackAnswer.Down reason)) d (rw apart refl)

dead-by : (rules : Rules) (closes : List Ordered) (x : Option CircuitState) (c : ℕ) (p : Past) (has_id : ℕ → Bool) (e : EdgePast)
    → CircuitAt rules closes x c p has_id e → x ≡ None → p.live ≡ false
dead-by rules closes None c p has_id e gone is = gone.live
dead-by rules closes (Some x) c p has_id e own is = absurd cc

relays-by : (rules : Rules) (h : List Step) (circ : CircNo) (reason : ℕ) (x : Option CircuitState)
    (relays after : List (Option Relay)) → Forgets relays after circ.0 → (x ≡ None → is_live_circuit rules h circ.0 ≡ false) →
    RelaysStand rules relays (circuits h) (λ e. past rules h e)
    → RelaysStand rules after (circuits h) (λ e. past rules (TearDown circ reason (tear_down_result_of x reason) ∷ h) e)
relays-by rules h circ reason None relays after forgets dead old =
    relays_torn rules h (TearDown circ reason BackAnswer.Gone) circ.0 relays after refl (dead refl) (λ e other. refl) forgets old
relays-by rules h circ reason (Some x) relays after forgets dead old =
    relays_torn rules h (TearDown circ reason (BackAnswer.Down reason)) circ.0 relays after refl
    (stays-live rules h circ.0 reason reason) (λ e other. other-past rules h circ reason reason e other) forgets old

pub torn_whole : (start : SwitchStart) (old new : State) (relays after : List (Option Relay)) (circ : CircNo) (reason : ℕ)
    (a : BackAnswer) → ((rules : Rules) (ev : ℕ → List Event) → new ≡ tear_down_state rules ev old circ.0 reason) →
    a ≡ tear_down_result old circ.0 reason → Forgets relays after circ.0
    → SwitchAdds (started start old relays) (started start new after) (TearDown circ reason a)
unfolding SwitchAdds AddsTo
torn_whole start old new relays after circ reason a state answer forgets = record {
  start = refl;
  steps = (tear_down_adds start [] old new circ reason a (state start.rules (events start.rules [])) answer).steps;
  stands = λ h st. record {
    state = (tear_down_adds start h old new circ reason a (state start.rules (events start.rules h)) answer).stands st.state;
    relays =
        subst (λ (b : BackAnswer). RelaysStand start.rules after (circuits h)
        (λ e. past start.rules (TearDown circ reason b ∷ h) e)) (sym answer)
        (relays-by start.rules h circ reason (slot_at old.circuits circ.0) relays after forgets
        (dead-by start.rules old.last_closes (slot_at old.circuits circ.0) circ.0 (past start.rules h circ.0)
        (λ k. holds_id h circ.0 k) (edge_past start.rules h circ.0) (st.state.circuits.circuit circ.0))
        st.relays);
  };
}
