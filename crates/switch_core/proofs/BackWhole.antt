-- The step that a return of backward bodies adds.
use Rattle.std.proofs.Common.{◌≡◌, ℕ, ◌+◌, ◌*◌, ◌≤◌, ◌<◌, ◌==◌, not, nat_lt, Bool, true, if◌then◌else◌, List, [], ◌∷◌, length, map, take, Option, Some, None, refl, sym, ◌∙◌, ap, subst, arith}
use Rattle.std.proofs.lemmas.Bool.Decides.{nat_tests}
use Rattle.std.proofs.lemmas.List.{length-map, length-take-le}
use Rattle.circuit_model.specs.Batches.{body_of}
use Rattle.circuit_model.specs.Events.{CircuitCell, Event}
use Rattle.circuit_model.specs.Opened.{born_keys}
use Rattle.circuit_model.specs.Packaged.{back_bodies}
use Rattle.circuit_model.specs.Rules.{Rules}
use Rattle.circuit_model.specs.Sent.{all_sealed, sealed}
use Rattle.circ_relay.specs.CircuitOfLog.{IsCircuit}
use Rattle.switch_model.specs.History.Relayed.{settled_forth}
use Rattle.circuit_model.specs.Words.{log}
use Rattle.circuit_model.proofs.Ciphers.{batch_sealed}
use Rattle.crypto_spec.specs.HopLayer.{sealed_all}
use Rattle.hop_crypto.specs.Ciphers.{IsWorked, sealed_from}
use Rattle.hop_crypto.specs.Jobs.{IsDoneJob}
use Rattle.hop_crypto.specs.SealerState.{sealer_of}
use Rattle.hop_crypto.specs.declared.cipher.Cipher.{Cipher}
use Rattle.hop_crypto.specs.declared.cipher.Cipher.TheVariants.{Back as back_cipher}
use Rattle.hop_crypto.specs.declared.parts.DoneParts.{DoneParts}
use Rattle.relay_cell.specs.declared.head.Opened.{Opened}
use Rattle.tr_io.specs.declared.answers.BackAnswer.{BackAnswer}
use Rattle.tr_io.specs.declared.answers.Difference.{Difference}
use Rattle.tr_io.specs.declared.names.ClaimNote.{ClaimNote}
use Rattle.tr_io.specs.declared.names.Dir.TheVariants.{Back}
use Rattle.tr_io.specs.declared.step.Step.{Step}
use Rattle.tr_io.specs.declared.step.Step.TheVariants.{GiveBack}
use Rattle.switch_model.specs.Answers.GiveBack.{is_note}
use Rattle.switch_model.specs.History.Circuit.{events}
use Rattle.switch_model.specs.History.EdgePast.{EdgePast, edge_past}
use Rattle.switch_model.specs.History.Legs.{holds_id}
use Rattle.switch_model.specs.History.Past.{Past, past}
use Rattle.switch_model.specs.Answers.EdgeOut.{Ordered}
use Rattle.switch_model.specs.Start.{SwitchStart}
use Rattle.switch_model.proofs.Common.{self_eq}
use Rattle.switch_machine.specs.Adds.{AddsTo}
use Rattle.switch_machine.specs.Calls.GiveBack.{done_result, first_kept, give_back_result, give_back_state, return_result_on, sealed_cells}
use Rattle.switch_machine.specs.Calls.Take.{kept_length}
use Rattle.switch_machine.specs.Machine.{kept_cells, kept_note, way_of_circuit}
use Rattle.switch_machine.specs.Stands.{Stands}
use Rattle.switch_machine.specs.Stands.OneCircuit.{CircuitStands, relay_cells}
use Rattle.switch_machine.specs.Stands.OneWay.{IsNoted}
use Rattle.switch_machine.specs.State.{CircuitState, KeptClaim, State, slot_at}
use Rattle.switch_machine.proofs.GiveBack.Law.{give_back_adds}
use Rattle.switch_core.specs.Relays.{RelayStands}
use Rattle.switch_core.specs.Sealing.{sealed_by, sealed_cells_of}
use Rattle.switch_core.specs.Settling.{CallsFit}
use Rattle.switch_core.specs.Started.{SwitchAdds}
use Rattle.switch_core.specs.declared.relay.Relay.{Relay}
use Rattle.switch_core.proofs.ForthHome.{circuit_stands, relay_of}
use Rattle.switch_core.specs.Homecoming.{PutsRelay}
use Rattle.switch_core.proofs.ForthRelays.{home_at, relays_put, stays_live}
use Rattle.switch_machine.proofs.Take.CellCounts.{kept-count}
use Rattle.switch_core.proofs.Whole.{started}

-- A job that the switch gave out back, worked, and the relay of its circuit.
pub record IsHomeBack (name : ℕ) (s : State) (relays : List (Option Relay)) (done : DoneParts) (x : CircuitState) (k : KeptClaim)
    (relay : Relay) : Type 0 where
  pub name_is : done.note.switch ≡ name
  pub inside : done.note.circ.0 < length s.circuits
  pub live : slot_at s.circuits done.note.circ.0 ≡ Some x
  pub back : done.note.dir ≡ Back
  pub out : x.back.claim_out ≡ Some k
  pub its : k.note ≡ done.note
  pub noted : is_note done.note (Some k.note) ≡ true
  pub relay_there : slot_at relays done.note.circ.0 ≡ Some relay
  pub job : IsDoneJob done
  pub start : done.start ≡ relay.back
  pub input : done.input.items ≡ map body_of k.cells

-- no more is out than was claimed
pub back_out : (start : SwitchStart) (s : State) (h : List Step) (c : ℕ) (x : CircuitState) → Stands start s h
    → slot_at s.circuits c ≡ Some x → kept_length x.back.claim_out ≤ x.back.claimed_count
back_out start s h c x st live =
    let own = circuit_stands start s h c x st live in
    omega (arith, own.back.out, kept-count x.back.claim_out)

-- the answer

passed-result : (name : ℕ) (rules : Rules) (ev : ℕ → List Event) (s : State) (note : ClaimNote) (x : CircuitState)
    → (note.switch == name) ≡ true → nat_lt note.circ.0 (length s.circuits) ≡ true → slot_at s.circuits note.circ.0 ≡ Some x
    → note.dir ≡ Back →
    is_note note (kept_note x.back.claim_out) ≡ true → give_back_result name rules ev s note None ≡ BackAnswer.Settled
passed-result name rules ev s note x same inside live back noted =
    let way_noted : is_note note (kept_note (way_of_circuit x note.dir).claim_out) ≡ true =
    ap (λ d. is_note note (kept_note (way_of_circuit x d).claim_out)) back ∙ noted in
    ap (λ b. if not b then BackAnswer.Stranger (Difference.Note None note)
    else (if not (nat_lt note.circ.0 (length s.circuits)) then BackAnswer.Stranger (Difference.Note None note)
    else return_result_on note None (slot_at s.circuits note.circ.0) (λ y. done_result rules (ev note.circ.0) y note.dir)))
    same
    ∙ ap (λ b. if not b then BackAnswer.Stranger (Difference.Note None note)
    else return_result_on note None (slot_at s.circuits note.circ.0) (λ y. done_result rules (ev note.circ.0) y note.dir))
    inside
    ∙ ap (λ o. return_result_on note None o (λ y. done_result rules (ev note.circ.0) y note.dir)) live
    ∙ ap (λ b. if not b then BackAnswer.Stranger (Difference.Note (kept_note (way_of_circuit x note.dir).claim_out) note)
    else done_result rules (ev note.circ.0) x note.dir) way_noted
    ∙ ap (done_result rules (ev note.circ.0) x) back

result-is : (name : ℕ) (rules : Rules) (ev : ℕ → List Event) (s : State) (relays : List (Option Relay)) (done : DoneParts)
    (x : CircuitState) (k : KeptClaim) (relay : Relay) → IsHomeBack name s relays done x k relay
    → give_back_result name rules ev s done.note None ≡ BackAnswer.Settled
result-is name rules ev s relays done x k relay home =
    let same : (done.note.switch == name) ≡ true = grind (arith, nat_tests, home.name_is) in
    let inside : nat_lt done.note.circ.0 (length s.circuits) ≡ true = grind (arith, nat_tests, home.inside) in
    let noted : is_note done.note (kept_note x.back.claim_out) ≡ true =
    ap (λ o. is_note done.note (kept_note o)) home.out ∙ home.noted in
    passed-result name rules ev s done.note x same inside home.live home.back noted

-- the cells that leave

each-cell : (key : List ℕ) (n : ℕ) (bodies : List (List ℕ))
    → sealed_cells_of (map sealed_from (map body_of (all_sealed key n bodies))) ≡ all_sealed key n bodies
each-cell key n [] = refl
each-cell key n (body ∷ bodies) = ap (λ l. sealed key n body ∷ l) (each-cell key (n + 1) bodies)

worked-by : (key : List ℕ) (n : ℕ) (start : Cipher) (input : List (List ℕ)) (output : List Opened) (end : Cipher)
    → IsWorked start input output end → start ≡ back_cipher (sealer_of (record { key = key; sealed_count = n })) →
    (output ≡ map sealed_from (sealed_all key (509 * n) input))
    × (end ≡ back_cipher (record { key = key; position = 509 * n + 509 * length input }))
worked-by key n start input output end worked is = subst (λ s. IsWorked s input output end) is worked

cells-are : (key : List ℕ) (n : ℕ) (cells : List CircuitCell) (done : DoneParts) → IsDoneJob done
    → done.start ≡ back_cipher (sealer_of (record { key = key; sealed_count = n })) → done.input.items ≡ map body_of cells →
    sealed_cells_of done.output.items ≡ all_sealed key n (map body_of cells)
cells-are key n cells done is start input =
    ap sealed_cells_of ((worked-by key n done.start done.input.items done.output.items done.end is.worked start).0
    ∙ ap (λ l. map sealed_from (sealed_all key (509 * n) l)) input
    ∙ ap (map sealed_from) (batch_sealed key n (map body_of cells)))
    ∙ each-cell key n (map body_of cells)

end-is : (key : List ℕ) (n count : ℕ) (done : DoneParts) → IsDoneJob done
    → done.start ≡ back_cipher (sealer_of (record { key = key; sealed_count = n })) → done.note.count ≡ count
    → done.end ≡ back_cipher (sealer_of (record { key = key; sealed_count = n + count }))
end-is key n count done is start its =
    let place : 509 * n + 509 * length done.input.items ≡ 509 * (n + count) = omega (arith, is.job.count, its) in
    (worked-by key n done.start done.input.items done.output.items done.end is.worked start).1
    ∙ ap (λ m. back_cipher (record { key = key; position = m })) place

-- they are numbered from those that were sealed before
first-by : (c sealed : ℕ) (l : List CircuitCell) (claim_out : Option KeptClaim) (k : KeptClaim)
    → IsNoted c Back (length (take sealed l)) claim_out → claim_out ≡ Some k → sealed ≤ length l → k.note.first ≡ sealed
first-by c sealed l None k noted is few = cc
first-by c sealed l (Some other) k noted is few =
    let same : other ≡ k = cc in
    ap (λ (x : KeptClaim). x.note.first) (sym same) ∙ noted.first ∙ length-take-le sealed l few

sealed-first : (rules : Rules) (closes : List Ordered) (x : CircuitState) (c : ℕ) (p : Past) (has_id : ℕ → Bool) (e : EdgePast)
    (k : KeptClaim) → CircuitStands rules closes x c p has_id e → x.back.claim_out ≡ Some k → k.note.first ≡ p.sealed_count
sealed-first rules closes x c p has_id e k own out =
    let few : p.sealed_count ≤ length (relay_cells (back_bodies (log rules p.events))) =
    omega (
      arith,
      own.sealed,
      length-map {B = CircuitCell} (back_bodies (log rules p.events)) (λ body. record { command = 3; body = body }),
    ) in
    first-by c p.sealed_count (relay_cells (back_bodies (log rules p.events))) x.back.claim_out k own.back.noted out few

-- what the history says of the circuit

events-same : (rules : Rules) (h : List Step) (n : ClaimNote) → n.dir ≡ Back
    → events rules (GiveBack n None BackAnswer.Settled ∷ h) n.circ.0 ≡ events rules h n.circ.0
events-same rules h n back = rw (back, self_eq n.circ.0) refl

sealed-more : (rules : Rules) (h : List Step) (n : ClaimNote) → n.dir ≡ Back
    → (past rules (GiveBack n None BackAnswer.Settled ∷ h) n.circ.0).sealed_count ≡ (past rules h n.circ.0).sealed_count + n.count
sealed-more rules h n back = rw (self_eq n.circ.0, back) refl

relay-sealed : (rules : Rules) (ev : List Event) (n count : ℕ) (relay next : Relay) (done : DoneParts) → IsDoneJob done
    → RelayStands relay rules ev n → done.start ≡ relay.back → done.note.count ≡ count → next.circuit ≡ relay.circuit
    → next.forth ≡ relay.forth → next.back ≡ done.end → RelayStands next rules ev (n + count)
relay-sealed rules ev n count relay next done is stands start its circuit forth back = record {
  circuit = subst (λ r. IsCircuit r rules ev) (sym circuit) stands.circuit;
  forth = forth ∙ stands.forth;
  back = back ∙ end-is (born_keys (log rules ev)).kb n count done is (start ∙ stands.back) its;
  calls = subst (λ r. CallsFit (length (settled_forth (log rules ev))) r) (sym circuit) stands.calls;
}

-- the step

state-by : (name : ℕ) (rules : Rules) (ev : ℕ → List Event) (s : State) (note : ClaimNote) (x : CircuitState)
    (cells : List CircuitCell) → slot_at s.circuits note.circ.0 ≡ Some x → note.dir ≡ Back
    → give_back_result name rules ev s note None ≡ BackAnswer.Settled →
    cells ≡ sealed_cells (born_keys (log rules (ev note.circ.0))).kb (first_kept x.back.claim_out) (kept_cells x.back.claim_out)
    → sealed_by s note.circ.0 cells ≡ give_back_state name rules ev s note None
state-by name rules ev s note x cells live back result is = rw (result, live, back, is) refl

pub back_whole : (start : SwitchStart) (old new : State) (relays after : List (Option Relay)) (done : DoneParts)
    (x : CircuitState) (k : KeptClaim) (relay next : Relay) → IsHomeBack start.name old relays done x k relay
    → new ≡ sealed_by old done.note.circ.0 (sealed_cells_of done.output.items) →
    next.circuit ≡ relay.circuit → next.forth ≡ relay.forth → next.back ≡ done.end → PutsRelay relays after done.note.circ.0 next
    → SwitchAdds (started start old relays) (started start new after) (GiveBack done.note None BackAnswer.Settled)
unfolding SwitchAdds AddsTo
back_whole start old new relays after done x k relay next home state_is circuit forth back puts = record {
  start = refl;
  steps = ap (λ (s : State). s.steps) state_is;
  stands = λ h st.
      let c = done.note.circ.0 in
      let ev = events start.rules h c in
      let p = past start.rules h c in
      let own = circuit_stands start old h c x st.state home.live in
      let stands : RelayStands relay start.rules ev p.sealed_count =
      relay_of _ (slot_at relays c) relay start.rules ev _ (st.relays.relay c) own.live home.relay_there in
      let key = (born_keys (log start.rules ev)).kb in
      let cells = cells-are key p.sealed_count k.cells done home.job (home.start ∙ stands.back) home.input in
      let put : sealed_cells_of done.output.items ≡ sealed_cells key (first_kept x.back.claim_out) (kept_cells x.back.claim_out) =
      cells ∙ ap (λ n. all_sealed key n (map body_of k.cells))
      (sym (sealed-first start.rules old.last_closes x c p (λ j. holds_id h c j) (edge_past start.rules h c) k own home.out))
      ∙ ap (λ o. sealed_cells key (first_kept o) (kept_cells o)) (sym home.out) in
      let result = result-is start.name start.rules (λ d. events start.rules h d) old relays done x k relay home in
      let state : new ≡ give_back_state start.name start.rules (λ d. events start.rules h d) old done.note None =
      state_is ∙ state-by start.name start.rules (λ d. events start.rules h d) old done.note x (sealed_cells_of done.output.items)
      home.live home.back result put in
      let next_stands : RelayStands next start.rules ev (p.sealed_count + done.note.count) =
      relay-sealed start.rules ev p.sealed_count done.note.count relay next done home.job stands home.start refl circuit forth
      back in
      record {
        state = (give_back_adds start h old new done.note None BackAnswer.Settled state (sym result)).stands st.state;
        relays = relays_put start.rules h done.note relays after next puts
            (home_at start.rules _ (Some next) next _ _ (stays_live start.rules h done.note own.live) refl
            (subst (λ n. RelayStands next start.rules (events start.rules (GiveBack done.note None BackAnswer.Settled ∷ h) c) n)
            (sym (sealed-more start.rules h done.note home.back))
            (subst (λ e. RelayStands next start.rules e (p.sealed_count + done.note.count))
            (sym (events-same start.rules h done.note home.back)) next_stands)))
            st.relays;
      };
}
