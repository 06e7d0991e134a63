-- Forward bodies that come home, in every history that the switch stands for.
use Rattle.std.proofs.Common.{◌≡◌, ℕ, ◌+◌, ◌≤◌, ◌<◌, ◌^◌, ◌++◌, Bool, true, false, List, [], ◌∷◌, length, map, take, is_some, Option, Some, None, IfSome, refl, sym, ◌∙◌, ap, subst, length-append, arith}
use Rattle.std.proofs.lemmas.List.{length-map}
use Rattle.std.specs.Prelude.{IsTrue}
use Rattle.circ_relay.specs.declared.circuit.Circuit.{Circuit as RelayCircuit}
use Rattle.circuit_model.specs.Batches.{body_of, events_behind, next_layer}
use Rattle.circuit_model.specs.Events.{CircuitCell, Event}
use Rattle.circuit_model.specs.Log.{Log}
use Rattle.circuit_model.specs.Packaged.{back_bodies}
use Rattle.circuit_model.specs.Rules.{Rules}
use Rattle.circuit_model.specs.Words.{log}
use Rattle.circuit_model.proofs.Ciphers.{batch_opened, batch_layer}
use Rattle.crypto_spec.specs.HopLayer.{opened_all, after_opening_all}
use Rattle.hop_crypto.specs.Ciphers.{IsWorked, opened_from}
use Rattle.hop_crypto.specs.Jobs.{IsDoneJob}
use Rattle.hop_crypto.specs.OpenerState.{opener_of}
use Rattle.hop_crypto.specs.declared.cipher.Cipher.{Cipher}
use Rattle.hop_crypto.specs.declared.cipher.Cipher.TheVariants.{Forth as forth_cipher}
use Rattle.hop_crypto.specs.declared.parts.DoneParts.{DoneParts}
use Rattle.relay_cell.specs.declared.head.Opened.{Opened}
use Rattle.tr_io.specs.declared.names.ClaimNote.{ClaimNote}
use Rattle.tr_io.specs.declared.names.Dir.{Dir}
use Rattle.tr_io.specs.declared.names.Dir.TheVariants.{Forth, Back}
use Rattle.tr_io.specs.declared.step.Step.{Step}
use Rattle.tr_io.specs.declared.answers.BackAnswer.{BackAnswer}
use Rattle.tr_io.specs.declared.step.Step.TheVariants.{GiveBack}
use Rattle.circuit_model.specs.Batches.{forward_of}
use Rattle.switch_model.specs.Answers.GiveBack.{done_by}
use Rattle.switch_model.specs.History.Returns.{Closing, Goes, Closes, Full, closing_at, reason_with, settled, settled_with, settling_reason}
use Rattle.switch_model.specs.History.Taken.{claimed_cells}
use Rattle.switch_model.proofs.Common.{self_eq}
use Rattle.switch_machine.proofs.GiveBack.Said.{cells-said}
use Rattle.switch_model.specs.History.Circuit.{events, sent}
use Rattle.switch_model.specs.History.EdgePast.{EdgePast, edge_past}
use Rattle.switch_model.specs.History.Legs.{holds_id}
use Rattle.switch_model.specs.History.Past.{Past, past}
use Rattle.switch_model.specs.History.Relayed.{settled_forth}
use Rattle.switch_model.specs.Answers.EdgeOut.{Ordered}
use Rattle.switch_model.specs.Start.{SwitchStart}
use Rattle.switch_machine.specs.Machine.{kept_cells}
use Rattle.switch_machine.specs.Stands.{Stands}
use Rattle.switch_machine.specs.Stands.OneCircuit.{CircuitAt, CircuitStands, relay_cells}
use Rattle.switch_machine.specs.Stands.OneWay.{WayStands, cell_waiting}
use Rattle.switch_machine.specs.State.{CircuitState, KeptClaim, State, WayState, slot_at}
use Rattle.switch_core.specs.Meaning.{home_count}
use Rattle.switch_core.specs.Relays.{RelayAt, RelayStands}
use Rattle.switch_core.specs.Settling.{AreOpened, CallsFit, HasCallsFor, RelayFits}
use Rattle.switch_core.specs.declared.relay.Relay.{Relay}
use Rattle.switch_machine.proofs.Take.CellCounts.{kept-count}
use Rattle.switch_core.proofs.Taken.{taken_count}

-- the circuit at a place of the list, by the history
stands-by : (rules : Rules) (closes : List Ordered) (slot : Option CircuitState) (x : CircuitState) (c : ℕ) (p : Past)
    (has_id : ℕ → Bool) (e : EdgePast) → CircuitAt rules closes slot c p has_id e → slot ≡ Some x
    → CircuitStands rules closes x c p has_id e
stands-by rules closes None x c p has_id e own is = cc
stands-by rules closes (Some y) x c p has_id e own is = let same : y ≡ x =
    cc in subst (λ z. CircuitStands rules closes z c p has_id e) same own

pub circuit_stands : (start : SwitchStart) (s : State) (h : List Step) (c : ℕ) (x : CircuitState) → Stands start s h
    → slot_at s.circuits c ≡ Some x →
    CircuitStands start.rules s.last_closes x c (past start.rules h c) (λ k. holds_id h c k) (edge_past start.rules h c)
circuit_stands start s h c x st live =
    stands-by start.rules s.last_closes (slot_at s.circuits c) x c (past start.rules h c) (λ k. holds_id h c k)
    (edge_past start.rules h c) (st.circuits.circuit c) live

-- its relay
pub relay_of : (live : Bool) (kept_relay : Option Relay) (relay : Relay) (rules : Rules) (ev : List Event) (sealed : ℕ)
    → RelayAt live kept_relay rules ev sealed → live ≡ true → kept_relay ≡ Some relay → RelayStands relay rules ev sealed
relay_of false kept_relay relay rules ev sealed at up is = cc
relay_of true None relay rules ev sealed at up is = absurd at
relay_of true (Some other) relay rules ev sealed at up is = let same : other ≡ relay =
    cc in subst (λ r. RelayStands r rules ev sealed) same at

-- how many of a direction's bodies came home
pub home_is : (c : ℕ) (dir : Dir) (way : WayState) (home given : List CircuitCell) (count : ℕ) (known : Option ClaimNote)
    (all : List ℕ) → WayStands c dir way home given count known all → home_count way ≡ length home
home_is c dir way home given count known all stands = omega (arith, stands.out, kept-count way.claim_out)

given-count : (c : ℕ) (dir : Dir) (way : WayState) (home given : List CircuitCell) (count : ℕ) (known : Option ClaimNote)
    (all : List ℕ) → WayStands c dir way home given count known all → length given ≡ way.claimed_count + length way.waiting_bodies
given-count c dir way home given count known all stands =
    let both : length (home ++ kept_cells way.claim_out) ≡ length home + length (kept_cells way.claim_out) =
    length-append home (kept_cells way.claim_out) in
    let all_cells : length (home ++ kept_cells way.claim_out ++ map cell_waiting way.waiting_bodies) ≡ length
    (home ++ kept_cells way.claim_out) + length (map cell_waiting way.waiting_bodies) =
    length-append (home ++ kept_cells way.claim_out) (map cell_waiting way.waiting_bodies) in
    omega (arith, stands.out, both, all_cells, length-map way.waiting_bodies cell_waiting, ap length stands.cells)

-- what the bodies need of the relay
pub calls_fit : (rules : Rules) (closes : List Ordered) (x : CircuitState) (c : ℕ) (p : Past) (has_id : ℕ → Bool) (e : EdgePast)
    (relay : Relay) → CircuitStands rules closes x c p has_id e → RelayStands relay rules p.events p.sealed_count
    → CallsFit (home_count x.forth) relay.circuit
calls_fit rules closes x c p has_id e relay own stands =
    subst (λ n. CallsFit n relay.circuit)
    (sym (home_is c Forth x.forth (settled_forth (log rules p.events)) p.taken_forth (p.claimed_count Forth)
    (p.claim_out Forth) (e.numbers Forth) own.forth)) stands.calls

pub relay_is : (rules : Rules) (closes : List Ordered) (x : CircuitState) (c : ℕ) (p : Past) (has_id : ℕ → Bool) (e : EdgePast)
    (relay : Relay) → CircuitStands rules closes x c p has_id e → RelayStands relay rules p.events p.sealed_count
    → RelayFits relay.circuit rules p.events x
relay_is rules closes x c p has_id e relay own stands = λ one.
    let none : p.hops ≡ 0 = omega (arith, own.hops, one) in
    let given =
    given-count c Back x.back (take p.sealed_count (relay_cells (back_bodies (log rules p.events))))
    (relay_cells (back_bodies (log rules p.events))) (p.claimed_count Back) (p.claim_out Back) (e.numbers Back) own.back in
    record {
      circuit = stands.circuit;
      unlinked = own.linked ∙ none;
      behind_is =
          omega (
            arith,
            given,
            length-map {B = CircuitCell} (back_bodies (log rules p.events)) (λ body. record { command = 3; body = body }),
          );
      out = omega (arith, own.back.out, kept-count x.back.claim_out);
    }

-- what came out of the cipher
worked-by : (layer_log : Log) (start : Cipher) (input : List (List ℕ)) (output : List Opened) (end : Cipher)
    → IsWorked start input output end → start ≡ forth_cipher (opener_of (next_layer layer_log)) →
    (output ≡ map opened_from (opened_all (next_layer layer_log) input))
    × (end ≡ forth_cipher (opener_of (after_opening_all (next_layer layer_log) input)))
worked-by layer_log start input output end worked is =
    subst (λ s. IsWorked s input output end) is worked (next_layer layer_log) refl

pub are_opened : (rules : Rules) (ev : List Event) (x : CircuitState) (done : DoneParts) → IsDoneJob done
    → done.start ≡ forth_cipher (opener_of (next_layer (log rules ev)))
    → done.input.items ≡ map body_of (kept_cells x.forth.claim_out) → AreOpened done.output.items rules ev x
are_opened rules ev x done is start input =
    (worked-by (log rules ev) done.start done.input.items done.output.items done.end is.worked start).0
    ∙ ap (λ bodies. map opened_from (opened_all (next_layer (log rules ev)) bodies)) input
    ∙ ap (map opened_from) (batch_opened rules ev (kept_cells x.forth.claim_out))

pub end_is : (rules : Rules) (ev : List Event) (x : CircuitState) (done : DoneParts) → IsDoneJob done
    → done.start ≡ forth_cipher (opener_of (next_layer (log rules ev)))
    → done.input.items ≡ map body_of (kept_cells x.forth.claim_out) →
    done.end ≡ forth_cipher (opener_of (next_layer (log rules (events_behind ev (kept_cells x.forth.claim_out)))))
end_is rules ev x done is start input =
    (worked-by (log rules ev) done.start done.input.items done.output.items done.end is.worked start).1
    ∙ ap (λ bodies. forth_cipher (opener_of (after_opening_all (next_layer (log rules ev)) bodies))) input
    ∙ ap (λ l. forth_cipher (opener_of l)) (batch_layer rules ev (kept_cells x.forth.claim_out))

-- the relay has room to count them

calls-for : (n m : ℕ) (relay : RelayCircuit) → CallsFit n relay → n ≤ m → m < 2 ^ 62 → HasCallsFor 32 relay
calls-for n m relay fits below few = record {
  windows = omega (arith, fits.windows, below, few);
  packager = omega (arith, fits.packager, below, few);
  places = omega (arith, fits.places, below, few);
}

pub calls_for : (n : ℕ) (x : Option CircuitState) (relay : RelayCircuit) → IsTrue (is_some x)
    → IfSome x (λ y. CallsFit (home_count y.forth) relay) → IfSome x (λ y. taken_count y ≤ n) → n < 2 ^ 62 → HasCallsFor 32 relay
calls_for n None relay live fits taken few = absurd cc
calls_for n (Some y) relay live fits taken few = calls-for (home_count y.forth) n relay fits (omega (arith, taken)) few

-- the events behind them, where none closed

all-by : (k : Closing) (event : Event) (ev all behind_all : List Event) (later : Option ℕ) → reason_with k later ≡ None
    → (later ≡ None → all ≡ behind_all) → settled_with k event ev all ≡ behind_all
all-by Goes event ev all behind_all later none rest = rest none
all-by (Closes reason) event ev all behind_all later none rest = cc
all-by Full event ev all behind_all later none rest = cc

all-settle : (rules : Rules) (left : ℕ) (ev : List Event) (cells : List CircuitCell) → settling_reason rules left ev cells ≡ None
    → settled rules left ev cells ≡ events_behind ev cells
all-settle rules left ev [] none = refl
all-settle rules left ev (cell ∷ cells) none =
    all-by (closing_at rules left ev cell) (forward_of cell) ev (settled rules left (forward_of cell ∷ ev) cells)
    (events_behind (forward_of cell ∷ ev) cells) (settling_reason rules left (forward_of cell ∷ ev) cells) none
    (λ later. all-settle rules left (forward_of cell ∷ ev) cells later)

events-home : (rules : Rules) (h : List Step) (n : ClaimNote) → n.dir ≡ Forth →
    events rules (GiveBack n None BackAnswer.Settled ∷ h) n.circ.0 ≡ settled rules (length (sent rules h n.circ.0 0))
    (events rules h n.circ.0) (claimed_cells h n)
events-home rules h n forth = rw (forth, self_eq n.circ.0) refl

done-none : (reason : Option ℕ) → done_by reason ≡ BackAnswer.Settled → reason ≡ None
done-none None is = refl
done-none (Some reason) is = cc

-- the circuit's events behind a return that settled
pub events_settled : (start : SwitchStart) (s : State) (h : List Step) (n : ClaimNote) (x : CircuitState) (k : KeptClaim)
    → Stands start s h → slot_at s.circuits n.circ.0 ≡ Some x → n.dir ≡ Forth → x.forth.claim_out ≡ Some k → k.note ≡ n →
    done_by (settling_reason start.rules x.sent_count (events start.rules h n.circ.0) k.cells) ≡ BackAnswer.Settled →
    events start.rules (GiveBack n None BackAnswer.Settled ∷ h) n.circ.0 ≡ events_behind (events start.rules h n.circ.0) k.cells
events_settled start s h n x k st live forth out its settled_is =
    let own = circuit_stands start s h n.circ.0 x st live in
    let cells : claimed_cells h n ≡ k.cells = cells-said start.rules s.last_closes h n x k out its own in
    events-home start.rules h n forth
    ∙ rw (← own.sent_count, cells)
    (all-settle start.rules x.sent_count (events start.rules h n.circ.0) k.cells (done-none _ settled_is))
