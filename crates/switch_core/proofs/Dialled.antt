-- Dial orders that are handed out.
use Rattle.std.proofs.Common.{◌≡◌, ℕ, ◌+◌, ◌-◌, ◌*◌, ◌<◌, ◌≤◌, ◌^◌, Bool, true, false, if◌then◌else◌, zero, suc, slice_set, List, [], ◌∷◌, length, get_or, Option, Some, None, IfSome, option_map, refl, sym, ◌∙◌, ap, subst, add-one, add-suc, add-zero, arith}
use Rattle.std.specs.Option.{option_or}
use Rattle.tr_io.specs.declared.dials.DialOrder.{DialOrder as Dial}
use Rattle.tr_io.specs.declared.dials.DialStep.{DialStep}
use Rattle.tr_io.specs.declared.names.Dest.{Dest}
use Rattle.tr_io.specs.declared.step.Step.TheVariants.{DialOrder}
use Rattle.switch_model.specs.Names.{chan_no}
use Rattle.switch_model.specs.Start.{SwitchStart}
use Rattle.switch_machine.specs.Adds.{Adds}
use Rattle.switch_machine.specs.Calls.DialOrder.{OpenDial, circuit_dialled, dial_order_result, dial_order_state, dialled_below, is_dialled_to, older, oldest_below, oldest_dial, order_step, waiting_of}
use Rattle.switch_machine.specs.Machine.{counted, dial_at, dial_in}
use Rattle.switch_machine.specs.State.{ChannelState, CircuitState, DialState, State, slot_at, with_slot}
use Rattle.switch_machine.proofs.DialOrder.Law.{dial_order_adds}
use Rattle.switch_machine.proofs.DialOrder.Numbered.{below}
use Rattle.switch_machine.proofs.DialOrder.Oldest.{OldestIs, offers_of, oldest-best, waiting-is}
use Rattle.switch_machine.proofs.DialOrder.Open.{in-open}
use Rattle.switch_machine.proofs.Again.{made-numbered}
use Rattle.switch_core.specs.Dialling.{open_of}
use Rattle.switch_core.specs.Meaning.{StepsFit}
use Rattle.switch_core.specs.Started.{SwitchAdds, SwitchStandsForSome}
use Rattle.switch_core.specs.declared.counters.Counters.{Counters}
use Rattle.switch_core.specs.declared.dialling.WaitingDial.{WaitingDial}
use Rattle.switch_core.specs.declared.relay.Relay.{Relay}
use Rattle.switch_core.proofs.DialNumbers.{dials_few}
use Rattle.switch_core.proofs.Leaves.{inside}
use Rattle.switch_core.proofs.Taken.{fits_circuit, fits_next, taken_count}
use Rattle.switch_core.proofs.Whole.{started}

-- the search for the oldest

pub one_more_dial : (s : State) (n : ℕ) (x : Option CircuitState) (best next last : Option WaitingDial) →
    slot_at s.circuits n ≡ x → option_map open_of next ≡ waiting_of n (dial_at x) →
    option_map open_of last ≡ older (option_map open_of best) (option_map open_of next) →
    option_map open_of best ≡ oldest_below s n → option_map open_of last ≡ oldest_below s (n + 1)
one_more_dial s n x best next last live next_is last_is best_is = rw (add-one n, last_is, best_is, next_is, live) refl

dial-inside : (s : State) (c : ℕ) (x : Option CircuitState) (dial : DialState) → slot_at s.circuits c ≡ x →
    dial_at x ≡ Some dial → c < length s.circuits
dial-inside s c None dial live has = absurd cc
dial-inside s c (Some x) dial live has = inside s.circuits c x live

inside-by : (s : State) (o : Option WaitingDial) → OldestIs (offers_of s) (length s.circuits) (option_map open_of o) →
    IfSome o (λ d. d.circ < length s.circuits)
inside-by s None best = tt
inside-by s (Some d) best =
    dial-inside s d.circ (slot_at s.circuits d.circ) (open_of d).dial refl
    (waiting-is d.circ (dial_in s d.circ) (open_of d) best.has).is_open

-- it ends with a circuit of the list
pub dial_inside : (s : State) (o : Option WaitingDial) → option_map open_of o ≡ oldest_dial s →
    IfSome o (λ d. d.circ < length s.circuits)
dial_inside s o is =
    inside-by s o (subst (OldestIs (offers_of s) (length s.circuits)) (sym is) (oldest-best s (length s.circuits)))

-- the channel that leads to a destination

pub leads_further : (channels : List (Option ChannelState)) (to : Dest) (n : ℕ) (b : Bool) →
    b ≡ is_dialled_to to (slot_at channels n) → b ≡ false → dialled_below channels to n ≡ None →
    dialled_below channels to (n + 1) ≡ None
leads_further channels to n b is away before =
    let not_here : is_dialled_to to (slot_at channels n) ≡ false = sym is ∙ away in
    rw (add-one n, before, not_here) refl

later : (channels : List (Option ChannelState)) (to : Dest) (m k n : ℕ) → dialled_below channels to m ≡ Some n →
    dialled_below channels to (m + k) ≡ Some n
later channels to m zero n found = rw add-zero found
later channels to m (suc k) n found = rw (add-suc m k, later channels to m k n found) refl

pub first_leads : (channels : List (Option ChannelState)) (to : Dest) (n : ℕ) (b : Bool) →
    b ≡ is_dialled_to to (slot_at channels n) → b ≡ true → dialled_below channels to n ≡ None → n < length channels →
    Some n ≡ dialled_below channels to (length channels)
first_leads channels to n b is there before below =
    let here : is_dialled_to to (slot_at channels n) ≡ true = sym is ∙ there in
    let found : dialled_below channels to (suc n) ≡ Some n = rw (before, here) refl in
    let whole : suc n + (length channels - suc n) ≡ length channels = omega arith in
    sym (subst (λ m. dialled_below channels to m ≡ Some n) whole (later channels to (suc n) (length channels - suc n) n found))

pub none_leads : (channels : List (Option ChannelState)) (to : Dest) (n : ℕ) → n ≡ length channels →
    dialled_below channels to n ≡ None → None ≡ option_map chan_no (dialled_below channels to (length channels))
none_leads channels to n all none = rw (← all, none) refl

-- the state and the answer

pub none_dialled : (s : State) → s.again ≡ [] → None ≡ oldest_dial s → counted s ≡ dial_order_state s
none_dialled s none is = rw (none, ← is) refl

pub none_answered : (s : State) → s.again ≡ [] → None ≡ oldest_dial s → None ≡ dial_order_result s
none_answered s none is = rw (none, ← is) refl

pub one_dialled : (s : State) (given : OpenDial) → s.again ≡ [] → Some given ≡ oldest_dial s →
    record (counted s) { circuits = with_slot s.circuits given.circ (option_map circuit_dialled (slot_at s.circuits given.circ)) }
    ≡ dial_order_state s
one_dialled s given none is = rw (none, ← is) refl

pub one_answered : (s : State) (given : OpenDial) (order : DialStep) → s.again ≡ [] → Some given ≡ oldest_dial s →
    order ≡ order_step s given → Some order ≡ dial_order_result s
one_answered s given order none is step = rw (none, ← is, step) refl

pub number_of : (s : State) (dial : WaitingDial) → Some (open_of dial) ≡ oldest_dial s →
    IfSome (oldest_dial s) (λ given. given.dial.order < 2 ^ 64) → dial.order < 2 ^ 64
number_of s dial is fits =
    subst (λ (o : Option OpenDial). IfSome o (λ given. given.dial.order < 2 ^ 64)) (sym is) fits

-- a circuit whose order was handed out took no body

dialled-fits : (n : ℕ) (x : Option CircuitState) → IfSome x (λ y. taken_count y ≤ n) →
    IfSome (option_map circuit_dialled x) (λ y. taken_count y ≤ n)
dialled-fits n None few = tt
dialled-fits n (Some x) few = few

pub fits_dialled : (k : Counters) (channels : List ChannelState) (circuits : List (Option CircuitState)) (c : ℕ)
    (old new : Option CircuitState) → StepsFit k channels circuits → IfSome old (λ y. taken_count y ≤ k.steps) →
    new ≡ option_map circuit_dialled old →
    StepsFit (record k { steps = k.steps + 1 }) channels (slice_set circuits c new)
fits_dialled k channels circuits c old new fits few is =
    fits_next k channels (slice_set circuits c new)
    (fits_circuit k channels circuits c new fits
    (subst (λ (x : Option CircuitState). IfSome x (λ y. taken_count y ≤ k.steps)) (sym is) (dialled-fits k.steps old few)))

-- the number of an order

number-by : (start : SwitchStart) (s : State) (relays : List (Option Relay))
    (some : SwitchStandsForSome (record { start = start; state = s; relays = relays })) (o : Option OpenDial) →
    OldestIs (offers_of s) (length s.circuits) o → s.steps < 2 ^ 62 → IfSome o (λ given. given.dial.order < 2 ^ 64)
number-by start s relays some None best few = tt
number-by start s relays some (Some given) best few =
    let st = some.stands.state in
    let has = (waiting-is given.circ (dial_in s given.circ) given best.has).is_open in
    let it = in-open start s some.history given.circ given.dial st has in
    let number = ap (λ (d : DialState). d.order) it.is in
    let least = below 0 _ it.made (made-numbered start.rules some.history) it.inside in
    let most = dials_few start some.history st.steps.legal in
    omega (arith, number, least, most, st.steps.count_is, few)

pub number_fits : (start : SwitchStart) (s : State) (relays : List (Option Relay))
    → SwitchStandsForSome (record { start = start; state = s; relays = relays }) →
    s.steps < 2 ^ 62 → IfSome (oldest_dial s) (λ given. given.dial.order < 2 ^ 64)
number_fits start s relays some few = number-by start s relays some (oldest_dial s) (oldest-best s (length s.circuits)) few

-- the history

pub dialled_whole : (start : SwitchStart) (old new : State) (relays : List (Option Relay)) (a : Option DialStep) →
    new ≡ dial_order_state old → a ≡ dial_order_result old →
    SwitchAdds (started start old relays) (started start new relays) (DialOrder a)
unfolding SwitchAdds Adds
dialled_whole start old new relays a state answer =
    let adds : Adds start old new (DialOrder a) = dial_order_adds start old new a state answer in
    record {
      start = refl;
      steps = adds.steps;
      stands = λ h st. record {
        state = adds.stands h st.state;
        relays = record { count_is = st.relays.count_is; relay = λ c. st.relays.relay c };
      };
    }
