-- A return that is what the switch gave out.
use Rattle.std.proofs.Common.{◌≡◌, ℕ, ◌==◌, nat_lt, not, if◌then◌else◌, Bool, true, false, List, length, map, Option, Some, None, refl, sym, ◌∙◌, ap, subst, arith}
use Rattle.std.specs.Prelude.{⊤}
use Rattle.std.proofs.lemmas.List.{length-map}
use Rattle.circuit_model.specs.Batches.{body_of}
use Rattle.circuit_model.specs.Events.{Event}
use Rattle.circuit_model.specs.Rules.{Rules}
use Rattle.hop_crypto.specs.declared.cipher.Cipher.{Cipher}
use Rattle.hop_crypto.specs.declared.parts.JobParts.{JobParts}
use Rattle.tor_spec.specs.Reasons.{destroy_internal}
use Rattle.tr_io.specs.declared.answers.BackAnswer.{BackAnswer}
use Rattle.tr_io.specs.declared.answers.Difference.{Difference}
use Rattle.tr_io.specs.declared.names.ClaimNote.{ClaimNote}
use Rattle.switch_model.specs.Answers.GiveBack.{is_note, returned}
use Rattle.switch_machine.specs.Calls.Abandon.{abandon_result, abandon_state, abandon_state_of}
use Rattle.switch_machine.specs.Calls.GiveBack.{return_result, return_result_on}
use Rattle.switch_machine.specs.Calls.TearDown.{tear_down_result, tear_down_result_of, tear_down_state, tear_down_state_of}
use Rattle.switch_machine.specs.Machine.{way_of_circuit, kept_note}
use Rattle.switch_machine.specs.State.{KeptClaim, WayState, CircuitState, State, slot_at}
use Rattle.switch_machine.specs.Calls.Take.{kept_length}
use Rattle.switch_machine.specs.Machine.{kept_cells}
use Rattle.switch_core.specs.Returning.{bodies_out_of, content_refusal, refusal_on, refusal, IsPlace, OfPlace}
use Rattle.switch_core.specs.Started.{Started}
use Rattle.switch_core.specs.declared.relay.Relay.{Relay}

pub record Passes (slot : Option CircuitState) (note : ClaimNote) (place : Option ℕ) (answer : CircuitState → BackAnswer)
    (a : BackAnswer) : Type 0 where
  pub circuit : CircuitState
  pub live : slot ≡ Some circuit
  pub is_kept : is_note note (kept_note (way_of_circuit circuit note.dir).claim_out) ≡ true
  pub no_place : place ≡ None
  pub is : a ≡ answer circuit

abbrev PassedBy : Option BackAnswer → Option CircuitState → ClaimNote → Option ℕ → (CircuitState → BackAnswer) → BackAnswer
    → Type 0
PassedBy None slot note place answer a = Passes slot note place answer a
PassedBy (Some refused) slot note place answer a = ⊤

note-passes : (x : CircuitState) (note : ClaimNote) (place : Option ℕ) (answer : CircuitState → BackAnswer)
    (claim_out : Option ClaimNote) (b : Bool) → kept_note (way_of_circuit x note.dir).claim_out ≡ claim_out
    → is_note note claim_out ≡ b →
    PassedBy (if not b then Some (BackAnswer.Stranger (Difference.Note claim_out note)) else content_refusal note place) (Some x)
    note place answer
    (if not b then BackAnswer.Stranger (Difference.Note claim_out note) else returned note place (answer x))
note-passes x note place answer claim_out false same is = tt
note-passes x note (Some place) answer claim_out true same is = tt
note-passes x note None answer claim_out true same is =
    record { circuit = x; live = refl; is_kept = ap (λ o. is_note note o) same ∙ is; no_place = refl; is = refl }

on-passes : (note : ClaimNote) (place : Option ℕ) (x : Option CircuitState) (answer : CircuitState → BackAnswer)
    → PassedBy (refusal_on note place x) x note place answer (return_result_on note place x answer)
on-passes note place None answer = tt
on-passes note place (Some x) answer =
    note-passes x note place answer (kept_note (way_of_circuit x note.dir).claim_out)
    (is_note note (kept_note (way_of_circuit x note.dir).claim_out)) refl refl

name-passes : (note : ClaimNote) (place : Option ℕ) (x : Option CircuitState) (answer : CircuitState → BackAnswer) (b d : Bool) →
    PassedBy (if not b then Some (BackAnswer.Stranger (Difference.Note None note)) else if not d
    then Some (BackAnswer.Stranger (Difference.Note None note)) else refusal_on note place x) x note place answer
    (if not b then BackAnswer.Stranger (Difference.Note None note) else if not d
    then BackAnswer.Stranger (Difference.Note None note) else return_result_on note place x answer)
name-passes note place x answer false d = tt
name-passes note place x answer true false = tt
name-passes note place x answer true true = on-passes note place x answer

pub passed_by : (name : ℕ) (s : State) (note : ClaimNote) (place : Option ℕ) (answer : CircuitState → BackAnswer)
    → refusal name s note place ≡ None →
    Passes (slot_at s.circuits note.circ.0) note place answer (return_result name s note place answer)
passed_by name s note place answer is =
    subst (λ o. PassedBy o (slot_at s.circuits note.circ.0) note place answer (return_result name s note place answer)) is
    (name-passes note place (slot_at s.circuits note.circ.0) answer (note.switch == name)
    (nat_lt note.circ.0 (length s.circuits)))

pub torn_answer : (name : ℕ) (s : State) (note : ClaimNote) (place : Option ℕ) → refusal name s note place ≡ None
    → tear_down_result s note.circ.0 destroy_internal ≡ abandon_result name s note place
torn_answer name s note place is =
    let by = passed_by name s note place (λ x. BackAnswer.Down destroy_internal) is in
    ap (λ (o : Option CircuitState). tear_down_result_of o destroy_internal) by.live ∙ sym by.is

pub torn_state_is : (name : ℕ) (rules : Rules) (ev : ℕ → List Event) (s : State) (note : ClaimNote) (place : Option ℕ)
    → refusal name s note place ≡ None →
    tear_down_state rules ev s note.circ.0 destroy_internal ≡ abandon_state name rules ev s note place
torn_state_is name rules ev s note place is =
    let by = passed_by name s note place (λ x. BackAnswer.Down destroy_internal) is in
    ap (λ (o : Option CircuitState). tear_down_state_of rules (ev note.circ.0) s note.circ.0 destroy_internal o) by.live
    ∙ sym (ap (λ b. abandon_state_of rules (ev note.circ.0) s note (slot_at s.circuits note.circ.0) b) by.is
    ∙ ap (λ (o : Option CircuitState). abandon_state_of rules (ev note.circ.0) s note o (BackAnswer.Down destroy_internal))
    by.live)

-- the place of a job

pub of_parts : (s : Started) (relays : List (Option Relay)) (note : ClaimNote) (start : Cipher)
    (bodies input : List (List ℕ)) (place : Option ℕ) (P : Option ℕ → Type 0) → relays ≡ s.relays → bodies ≡ input →
    IsPlace relays s.state note start bodies place → P place → OfPlace s note start input P
of_parts s relays note start bodies input place P there all first fact = record {
  place = place;
  first =
      subst (λ l. IsPlace l s.state note start input place) there
      (subst (λ l. IsPlace relays s.state note start l place) all first);
  fact = fact;
}

pub of_place : (s : Started) (job parts : JobParts) (relays : List (Option Relay)) (bodies : List (List ℕ)) (place : Option ℕ)
    (P : ClaimNote → Option ℕ → Type 0) → parts ≡ job → relays ≡ s.relays → bodies ≡ parts.bodies.items →
    IsPlace relays s.state parts.note parts.cipher bodies place → P parts.note place
    → OfPlace s job.note job.cipher job.bodies.items (λ p. P job.note p)
of_place s job parts relays bodies place P same kept_is all first fact =
    subst (λ (j : JobParts). OfPlace s j.note j.cipher j.bodies.items (λ p. P j.note p)) same
    (of_parts s relays parts.note parts.cipher bodies parts.bodies.items place (λ p. P parts.note p) kept_is all first fact)

-- how many are out, and their bodies
out-by : (claim_out : Option KeptClaim) → kept_length claim_out ≡ length (map body_of (kept_cells claim_out))
out-by None = refl
out-by (Some claim_out) = sym (length-map claim_out.cells body_of)

pub out_bodies : (way : WayState) → kept_length way.claim_out ≡ length (bodies_out_of way)
out_bodies way = out-by way.claim_out
