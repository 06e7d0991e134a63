-- Worked jobs that come home: those that are refused, and those that are what the switch gave out.
use Rattle.std.proofs.Common.{◌≡◌, ℕ, ◌==◌, ◌≤◌, ◌<◌, not, nat_lt, if◌then◌else◌, Bool, true, false, List, ◌∷◌, length, map, Option, Some, None, refl, sym, ◌∙◌, ap, subst}
use Rattle.std.proofs.lemmas.Bool.{ltb-true}
use Rattle.circuit_model.specs.Batches.{body_of}
use Rattle.circuit_model.specs.Events.{Event}
use Rattle.circuit_model.specs.Rules.{Rules}
use Rattle.hop_crypto.specs.Jobs.{IsDoneJob}
use Rattle.hop_crypto.specs.declared.cipher.Cipher.{Cipher}
use Rattle.hop_crypto.specs.declared.parts.DoneParts.{DoneParts}
use Rattle.tr_io.specs.declared.answers.BackAnswer.{BackAnswer}
use Rattle.tr_io.specs.declared.answers.Difference.{Difference}
use Rattle.tr_io.specs.declared.names.ClaimNote.{ClaimNote}
use Rattle.tr_io.specs.declared.names.Dir.{Dir}
use Rattle.tr_io.specs.declared.names.Dir.TheVariants.{Forth, Back}
use Rattle.tr_io.specs.declared.step.Step.{Step}
use Rattle.tr_io.specs.declared.step.Step.TheVariants.{GiveBack}
use Rattle.switch_model.specs.Answers.GiveBack.{is_note}
use Rattle.switch_model.specs.History.Circuit.{events, is_accepted_return, is_live_circuit}
use Rattle.switch_model.specs.History.EdgePast.{edge_past}
use Rattle.switch_model.specs.History.Legs.{circuits, holds_id}
use Rattle.switch_model.specs.History.Past.{past}
use Rattle.switch_model.specs.Names.{same_dir}
use Rattle.switch_model.specs.Start.{SwitchStart}
use Rattle.switch_model.proofs.Common.{and-false, same-number}
use Rattle.switch_machine.specs.Adds.{AddsTo}
use Rattle.switch_machine.specs.Calls.GiveBack.{done_result, give_back_state_of}
use Rattle.switch_machine.specs.Calls.Take.{kept_length}
use Rattle.switch_machine.specs.Machine.{counted, kept_cells, kept_note, way_of_circuit}
use Rattle.switch_machine.specs.State.{CircuitState, KeptClaim, State, slot_at}
use Rattle.switch_machine.proofs.GiveBack.Law.{give_back_adds}
use Rattle.switch_machine.proofs.GiveBack.Said.{is-kept}
use Rattle.switch_core.specs.Meaning.{home_count}
use Rattle.switch_core.specs.Relays.{RelayAt, RelaysStand, RelayStands}
use Rattle.switch_core.specs.Returning.{bodies_out, IsPlace, refusal, refusal_on, RefusedCase, start_out}
use Rattle.switch_core.specs.Settling.{CallsFit}
use Rattle.switch_core.specs.Started.{SwitchAdds, SwitchStands}
use Rattle.switch_core.specs.declared.relay.Relay.{Relay}
use Rattle.switch_core.proofs.BackWhole.{back_out, IsHomeBack}
use Rattle.switch_core.proofs.ForthHome.{calls_fit, circuit_stands, relay_of}
use Rattle.switch_core.proofs.ForthWhole.{IsHomeForth}
use Rattle.switch_core.proofs.Homes.{IsThere}
use Rattle.switch_core.proofs.Returns.{IsRefusal, refused_by}
use Rattle.switch_core.proofs.HomeReturns.{out_bodies, passed_by}
use Rattle.switch_core.proofs.Whole.{started}

-- a return that is refused

left-given : (rules : Rules) (ev : List Event) (s : State) (note : ClaimNote) (x : Option CircuitState) (a : BackAnswer)
    → IsRefusal a → give_back_state_of rules ev s note x a ≡ counted s
left-given rules ev s note None BackAnswer.Gone of = refl
left-given rules ev s note (Some x) BackAnswer.Gone of = refl
left-given rules ev s note None (BackAnswer.Stranger why) of = refl
left-given rules ev s note (Some x) (BackAnswer.Stranger why) of = refl
left-given rules ev s note x BackAnswer.Settled of = absurd of
left-given rules ev s note x (BackAnswer.Down reason) of = absurd of

events-refused : (rules : Rules) (h : List Step) (note : ClaimNote) (place : Option ℕ) (a : BackAnswer) (d : ℕ)
    → is_accepted_return a ≡ false → events rules (GiveBack note place a ∷ h) d ≡ events rules h d
events-refused rules h note place a d refused =
    rw (refused, and-false (same_dir note.dir Forth), and-false (note.circ.0 == d)) refl

relays-refused : (rules : Rules) (h : List Step) (note : ClaimNote) (place : Option ℕ) (a : BackAnswer)
    (relays : List (Option Relay)) → IsRefusal a → RelaysStand rules relays (circuits h) (λ e. past rules h e) →
    RelaysStand rules relays (circuits h) (λ e. past rules (GiveBack note place a ∷ h) e)
relays-refused rules h note place BackAnswer.Gone relays of old = record {
  count_is = old.count_is;
  relay = λ c. subst (λ e. RelayAt (is_live_circuit rules h c) (slot_at relays c) rules e (past rules h c).sealed_count)
      (sym (events-refused rules h note place BackAnswer.Gone c refl)) (old.relay c);
}
relays-refused rules h note place (BackAnswer.Stranger why) relays of old = record {
  count_is = old.count_is;
  relay = λ c. subst (λ e. RelayAt (is_live_circuit rules h c) (slot_at relays c) rules e (past rules h c).sealed_count)
      (sym (events-refused rules h note place (BackAnswer.Stranger why) c refl)) (old.relay c);
}
relays-refused rules h note place BackAnswer.Settled relays of old = absurd of
relays-refused rules h note place (BackAnswer.Down reason) relays of old = absurd of

pub refused_whole : (start : SwitchStart) (old new : State) (relays : List (Option Relay)) (note : ClaimNote) (place : Option ℕ)
    (a : BackAnswer) → refusal start.name old note place ≡ Some a → new ≡ counted old →
    SwitchAdds (started start old relays) (started start new relays) (GiveBack note place a)
unfolding SwitchAdds AddsTo
refused_whole start old new relays note place a refused state = record {
  start = refl;
  steps = ap (λ (s : State). s.steps) state;
  stands = λ h st.
      let by = refused_by start.name old note place (λ x. done_result start.rules (events start.rules h note.circ.0) x note.dir) a
      refused in
      record {
        state =
            (give_back_adds start h old new note place a
            (state
            ∙ sym (ap (λ b. give_back_state_of start.rules (events start.rules h note.circ.0) old note
            (slot_at old.circuits note.circ.0) b) by.0
            ∙ left-given start.rules (events start.rules h note.circ.0) old note (slot_at old.circuits note.circ.0) a by.1))
            (sym by.0)).stands st.state;
        relays = relays-refused start.rules h note place a relays by.1 st.relays;
      };
}

pub refused_case : (a : BackAnswer) (P : Type 0) → P → RefusedCase a P
refused_case BackAnswer.Gone P p = p
refused_case (BackAnswer.Stranger why) P p = p
refused_case BackAnswer.Settled P p = tt
refused_case (BackAnswer.Down reason) P p = tt

-- a job that is what the switch gave out, worked

pub record IsHome (start : SwitchStart) (s : State) (relays : List (Option Relay)) (done : DoneParts) : Type 0 where
  pub circuit : CircuitState
  pub claim_out : KeptClaim
  pub relay : Relay
  pub name_is : done.note.switch ≡ start.name
  pub inside : done.note.circ.0 < length s.circuits
  pub live : slot_at s.circuits done.note.circ.0 ≡ Some circuit
  pub out : (way_of_circuit circuit done.note.dir).claim_out ≡ Some claim_out
  pub its : claim_out.note ≡ done.note
  pub noted : is_note done.note (Some claim_out.note) ≡ true
  pub there : slot_at relays done.note.circ.0 ≡ Some relay
  pub job : IsDoneJob done
  pub begins : Some done.start ≡ start_out (Some relay) done.note.dir
  pub input : done.input.items ≡ map body_of claim_out.cells
  pub count : length done.output.items ≡ kept_length (way_of_circuit circuit done.note.dir).claim_out
  pub calls : CallsFit (home_count circuit.forth) relay.circuit
  pub sealed : kept_length circuit.back.claim_out ≤ circuit.back.claimed_count

name-by : (note : ClaimNote) (place : Option ℕ) (x : Option CircuitState) (b d : Bool) →
    (if not b then Some (BackAnswer.Stranger (Difference.Note None note)) else if not d
    then Some (BackAnswer.Stranger (Difference.Note None note)) else refusal_on note place x) ≡ None → (b ≡ true) × (d ≡ true)
name-by note place x false d is = cc
name-by note place x true false is = cc
name-by note place x true true is = (refl, refl)

name-is : (name : ℕ) (s : State) (note : ClaimNote) (place : Option ℕ) → refusal name s note place ≡ None
    → (note.switch ≡ name) × (note.circ.0 < length s.circuits)
name-is name s note place is =
    let by = name-by note place (slot_at s.circuits note.circ.0) (note.switch == name) (nat_lt note.circ.0 (length s.circuits))
    is in
    (same-number note.switch name by.0, ltb-true note.circ.0 (length s.circuits) by.1)

there-by : (live : Bool) (slot : Option Relay) (rules : Rules) (ev : List Event) (sealed : ℕ) → RelayAt live slot rules ev sealed
    → live ≡ true → IsThere slot
there-by false slot rules ev sealed at up = cc
there-by true None rules ev sealed at up = absurd at
there-by true (Some relay) rules ev sealed at up = record { relay = relay; there = refl }

pub is_home : (start : SwitchStart) (s : State) (relays : List (Option Relay)) (h : List Step) (done : DoneParts)
    (place : Option ℕ) → SwitchStands (started start s relays) h → IsDoneJob done
    → length done.output.items ≡ length done.input.items →
    IsPlace relays s done.note done.start done.input.items place → refusal start.name s done.note place ≡ None
    → IsHome start s relays done
is_home start s relays h done place st job many first passes =
    let c = done.note.circ.0 in
    let by = passed_by start.name s done.note place (λ x. BackAnswer.Settled) passes in
    let named = name-is start.name s done.note place passes in
    let own = circuit_stands start s h c by.circuit st.state by.live in
    let there =
    there-by (is_live_circuit start.rules h c) (slot_at relays c) start.rules (events start.rules h c)
    (past start.rules h c).sealed_count (st.relays.relay c) own.live in
    let stands : RelayStands there.relay start.rules (events start.rules h c) (past start.rules h c).sealed_count =
    relay_of _ (slot_at relays c) there.relay start.rules (events start.rules h c) _ (st.relays.relay c) own.live there.there in
    let k = is-kept done.note (way_of_circuit by.circuit done.note.dir).claim_out by.is_kept in
    let same : IsPlace relays s done.note done.start done.input.items None =
    subst (λ p. IsPlace relays s done.note done.start done.input.items p) by.no_place first in
    let bodies : done.input.items ≡ map body_of (kept_cells (way_of_circuit by.circuit done.note.dir).claim_out) =
    same.1 ∙ ap (λ o. bodies_out o done.note.dir) by.live in
    record {
      circuit = by.circuit;
      claim_out = k.0;
      relay = there.relay;
      name_is = named.0;
      inside = named.1;
      live = by.live;
      out = k.1.0;
      its = k.1.1;
      noted = ap (λ o. is_note done.note (kept_note o)) (sym k.1.0) ∙ by.is_kept;
      there = there.there;
      job = job;
      begins = same.0 ∙ ap (λ o. start_out o done.note.dir) there.there;
      input = bodies ∙ ap (λ o. map body_of (kept_cells o)) k.1.0;
      count = many ∙ ap length bodies ∙ sym (out_bodies (way_of_circuit by.circuit done.note.dir));
      calls = calls_fit start.rules s.last_closes by.circuit c (past start.rules h c) (λ j. holds_id h c j)
          (edge_past start.rules h c) there.relay own stands;
      sealed = back_out start s h c by.circuit st.state by.live;
    }

starts-forth : (relay : Relay) (dir : Dir) (start : Cipher) → dir ≡ Forth → Some start ≡ start_out (Some relay) dir
    → start ≡ relay.forth
starts-forth relay Forth start is begins = cc
starts-forth relay Back start is begins = cc

starts-back : (relay : Relay) (dir : Dir) (start : Cipher) → dir ≡ Back → Some start ≡ start_out (Some relay) dir
    → start ≡ relay.back
starts-back relay Forth start is begins = cc
starts-back relay Back start is begins = cc

pub home_forth : (start : SwitchStart) (s : State) (relays : List (Option Relay)) (done : DoneParts) → done.note.dir ≡ Forth
    → (home : IsHome start s relays done) → IsHomeForth start.name s relays done home.circuit home.claim_out home.relay
home_forth start s relays done forth home = record {
  name_is = home.name_is;
  inside = home.inside;
  live = home.live;
  forth = forth;
  out = sym (ap (λ d. (way_of_circuit home.circuit d).claim_out) forth) ∙ home.out;
  its = home.its;
  noted = home.noted;
  relay_there = home.there;
  job = home.job;
  start = starts-forth home.relay done.note.dir done.start forth home.begins;
  input = home.input;
}

pub home_back : (start : SwitchStart) (s : State) (relays : List (Option Relay)) (done : DoneParts) → done.note.dir ≡ Back
    → (home : IsHome start s relays done) → IsHomeBack start.name s relays done home.circuit home.claim_out home.relay
home_back start s relays done back home = record {
  name_is = home.name_is;
  inside = home.inside;
  live = home.live;
  back = back;
  out = sym (ap (λ d. (way_of_circuit home.circuit d).claim_out) back) ∙ home.out;
  its = home.its;
  noted = home.noted;
  relay_there = home.there;
  job = home.job;
  start = starts-back home.relay done.note.dir done.start back home.begins;
  input = home.input;
}
