-- The step that a return of forward bodies adds.
use Rattle.std.proofs.Common.{◌≡◌, ℕ, ◌+◌, ◌<◌, ◌==◌, not, nat_lt, true, if◌then◌else◌, List, [], ◌∷◌, length, map, Option, Some, None, refl, sym, ◌∙◌, ap, length-append, arith, suc}
use Rattle.std.proofs.lemmas.Bool.Decides.{nat_tests}
use Rattle.circ_relay.specs.CircuitOfLog.{IsCircuit}
use Rattle.circuit_model.specs.Batches.{body_of, events_behind, forward_of, next_layer, opened_each}
use Rattle.circuit_model.specs.Events.{CircuitCell, Event}
use Rattle.circuit_model.specs.Opened.{born_keys}
use Rattle.circuit_model.specs.Rules.{Rules}
use Rattle.circuit_model.specs.Words.{log}
use Rattle.hop_crypto.specs.Jobs.{IsDoneJob}
use Rattle.hop_crypto.specs.OpenerState.{opener_of}
use Rattle.hop_crypto.specs.SealerState.{sealer_of}
use Rattle.hop_crypto.specs.declared.cipher.Cipher.TheVariants.{Forth as forth_cipher, Back as back_cipher}
use Rattle.hop_crypto.specs.declared.parts.DoneParts.{DoneParts}
use Rattle.tr_io.specs.declared.answers.BackAnswer.{BackAnswer}
use Rattle.tr_io.specs.declared.answers.Difference.{Difference}
use Rattle.tr_io.specs.declared.names.ClaimNote.{ClaimNote}
use Rattle.tr_io.specs.declared.names.Dir.TheVariants.{Forth}
use Rattle.switch_model.specs.Answers.GiveBack.{done_by, is_note}
use Rattle.switch_model.specs.History.Legs.{circuits}
use Rattle.switch_model.specs.History.Relayed.{settled_forth}
use Rattle.switch_model.specs.History.Returns.{settling_reason}
use Rattle.switch_model.proofs.Returning.{forth-behind}
use Rattle.switch_machine.specs.Calls.GiveBack.{done_result, give_back_result, give_back_state, return_result_on}
use Rattle.switch_machine.specs.Machine.{kept_cells, kept_note, way_of_circuit}
use Rattle.switch_machine.specs.State.{CircuitState, KeptClaim, State, slot_at}
use Rattle.switch_core.specs.Relays.{RelayStands}
use Rattle.switch_core.specs.Settling.{CallsGrow, settled_by}
use Rattle.switch_core.specs.declared.relay.Relay.{Relay}

-- A job that the switch gave out forth, worked, and the relay of its circuit.
pub record IsHomeForth (name : ℕ) (s : State) (relays : List (Option Relay)) (done : DoneParts) (x : CircuitState) (k : KeptClaim)
    (relay : Relay) : Type 0 where
  pub name_is : done.note.switch ≡ name
  pub inside : done.note.circ.0 < length s.circuits
  pub live : slot_at s.circuits done.note.circ.0 ≡ Some x
  pub forth : done.note.dir ≡ Forth
  pub out : x.forth.claim_out ≡ Some k
  pub its : k.note ≡ done.note
  pub noted : is_note done.note (Some k.note) ≡ true
  pub relay_there : slot_at relays done.note.circ.0 ≡ Some relay
  pub job : IsDoneJob done
  pub start : done.start ≡ relay.forth
  pub input : done.input.items ≡ map body_of k.cells

-- the answer, and the state

passed-result : (name : ℕ) (rules : Rules) (ev : ℕ → List Event) (s : State) (note : ClaimNote) (x : CircuitState)
    → (note.switch == name) ≡ true → nat_lt note.circ.0 (length s.circuits) ≡ true → slot_at s.circuits note.circ.0 ≡ Some x
    → note.dir ≡ Forth →
    is_note note (kept_note x.forth.claim_out) ≡ true
    → give_back_result name rules ev s note None
    ≡ done_by (settling_reason rules x.sent_count (ev note.circ.0) (kept_cells x.forth.claim_out))
passed-result name rules ev s note x same inside live forth noted =
    let way_noted : is_note note (kept_note (way_of_circuit x note.dir).claim_out) ≡ true =
    ap (λ d. is_note note (kept_note (way_of_circuit x d).claim_out)) forth ∙ noted in
    ap (λ b. if not b then BackAnswer.Stranger (Difference.Note None note)
    else (if not (nat_lt note.circ.0 (length s.circuits)) then BackAnswer.Stranger (Difference.Note None note)
    else return_result_on note None (slot_at s.circuits note.circ.0) (λ y. done_result rules (ev note.circ.0) y note.dir)))
    same
    ∙ ap (λ b. if not b then BackAnswer.Stranger (Difference.Note None note)
    else return_result_on note None (slot_at s.circuits note.circ.0) (λ y. done_result rules (ev note.circ.0) y note.dir))
    inside
    ∙ ap (λ o. return_result_on note None o (λ y. done_result rules (ev note.circ.0) y note.dir)) live
    ∙ ap (λ b. if not b then BackAnswer.Stranger (Difference.Note (kept_note (way_of_circuit x note.dir).claim_out) note)
    else done_result rules (ev note.circ.0) x note.dir) way_noted
    ∙ ap (done_result rules (ev note.circ.0) x) forth

pub result-is : (name : ℕ) (rules : Rules) (ev : ℕ → List Event) (s : State) (relays : List (Option Relay)) (done : DoneParts)
    (x : CircuitState) (k : KeptClaim) (relay : Relay) → IsHomeForth name s relays done x k relay →
    give_back_result name rules ev s done.note None
    ≡ done_by (settling_reason rules x.sent_count (ev done.note.circ.0) (kept_cells x.forth.claim_out))
result-is name rules ev s relays done x k relay home =
    let same : (done.note.switch == name) ≡ true = grind (arith, nat_tests, home.name_is) in
    let inside : nat_lt done.note.circ.0 (length s.circuits) ≡ true = grind (arith, nat_tests, home.inside) in
    let noted : is_note done.note (kept_note x.forth.claim_out) ≡ true =
    ap (λ o. is_note done.note (kept_note o)) home.out ∙ home.noted in
    passed-result name rules ev s done.note x same inside home.live home.forth noted

pub state-by : (name : ℕ) (rules : Rules) (ev : ℕ → List Event) (s : State) (note : ClaimNote) (x : CircuitState) (reason : Option ℕ)
    → slot_at s.circuits note.circ.0 ≡ Some x → note.dir ≡ Forth → give_back_result name rules ev s note None ≡ done_by reason →
    settled_by rules (ev note.circ.0) s note.circ.0 x (done_by reason) ≡ give_back_state name rules ev s note None
state-by name rules ev s note x None live forth result = rw (result, live, forth) refl
state-by name rules ev s note x (Some reason) live forth result = rw (result, live) refl

-- the keys of a circuit don't change
keys-behind : (rules : Rules) (ev : List Event) (cells : List CircuitCell)
    → born_keys (log rules (events_behind ev cells)) ≡ born_keys (log rules ev)
keys-behind rules ev [] = refl
keys-behind rules ev (cell ∷ cells) = keys-behind rules (forward_of cell ∷ ev) cells

pub opened-count : (rules : Rules) (ev : List Event) (cells : List CircuitCell) → length (opened_each rules ev cells) ≡ length cells
opened-count rules ev [] = refl
opened-count rules ev (cell ∷ cells) = ap (λ n. suc n) (opened-count rules (forward_of cell ∷ ev) cells)

-- the relay behind bodies that all went
pub relay-behind : (rules : Rules) (ev : List Event) (sealed : ℕ) (relay next : Relay) (done : DoneParts) (cells : List CircuitCell)
    → RelayStands relay rules ev sealed → IsCircuit next.circuit rules (events_behind ev cells) →
    next.forth ≡ forth_cipher (opener_of (next_layer (log rules (events_behind ev cells)))) → next.back ≡ relay.back
    → CallsGrow (length cells) relay.circuit next.circuit → RelayStands next rules (events_behind ev cells) sealed
relay-behind rules ev sealed relay next done cells stands circuit forth back grown =
    let count : length (settled_forth (log rules (events_behind ev cells))) ≡ length (settled_forth (log rules ev)) + length
    cells =
    ap length (forth-behind rules ev cells) ∙ length-append (settled_forth (log rules ev)) cells in
    record {
      circuit = circuit;
      forth = forth;
      back = back ∙ stands.back ∙ ap (λ keys. back_cipher (sealer_of (record { key = keys.kb; sealed_count = sealed })))
          (sym (keys-behind rules ev cells));
      calls = record {
        windows = omega (arith, stands.calls.windows, grown.windows, count);
        packager = omega (arith, stands.calls.packager, grown.packager, count);
        places = omega (arith, stands.calls.places, grown.places, count);
      };
    }
