-- A job that comes back as it was given out differs nowhere, and is answered as the switch's own.
use Rattle.std.proofs.Common.{◌≡◌, ℕ, ◌<◌, ◌==◌, not, nat_lt, Bool, true, false, zero, suc, List, Option, Some, None, refl, sym, ap, ◌∙◌, subst}
use Rattle.std.specs.Prelude.{⊤}
use Rattle.std.specs.List.{slice_get}
use Rattle.std.proofs.lemmas.Bool.{lt-ltb}
use Rattle.circuit_model.specs.Events.{Event}
use Rattle.circuit_model.specs.Rules.{Rules}
use Rattle.hop_crypto.specs.declared.parts.JobParts.{JobParts}
use Rattle.tr_io.specs.declared.answers.BackAnswer.{BackAnswer}
use Rattle.tr_io.specs.declared.answers.BackAnswer.TheVariants.{Gone, Stranger, Settled, Down}
use Rattle.tr_io.specs.declared.names.ClaimNote.{ClaimNote}
use Rattle.tr_io.specs.declared.names.Dir.{Dir}
use Rattle.tr_io.specs.declared.names.Dir.TheVariants.{Forth, Back}
use Rattle.tr_io.specs.declared.step.Step.{Step}
use Rattle.tr_io.specs.declared.step.Step.TheVariants.{Claim}
use Rattle.switch_model.specs.Answers.EdgeOut.{Ordered}
use Rattle.switch_model.specs.Answers.GiveBack.{return_answer, done, done_by}
use Rattle.switch_model.specs.History.Circuit.{events, is_live_circuit}
use Rattle.switch_model.specs.History.EdgePast.{EdgePast, edge_past}
use Rattle.switch_model.specs.History.Legs.{circuits, holds_id}
use Rattle.switch_model.specs.History.Past.{Past, past}
use Rattle.switch_model.specs.Legal.{IsLegal}
use Rattle.switch_model.specs.Names.{same_note, way_of}
use Rattle.switch_model.specs.Start.{SwitchStart}
use Rattle.switch_model.specs.Waiting.Claims.{claim_out}
use Rattle.switch_model.specs.Waiting.Contents.{claimed_bodies, IsFirstDifference}
use Rattle.switch_model.proofs.BodiesStay.{claimed_bodies_stay}
use Rattle.switch_model.proofs.Common.{self_eq}
use Rattle.switch_machine.specs.Stands.OneCircuit.{CircuitAt}
use Rattle.switch_machine.specs.State.{CircuitState, slot_at}
use Rattle.switch_machine.proofs.GiveBack.Home.{self-way}
use Rattle.switch_core.specs.Claiming.{cipher_at}
use Rattle.switch_core.specs.Relays.{RelayAt, RelayStands}
use Rattle.switch_core.specs.Returning.{bodies_out, IsPlace, start_out}
use Rattle.switch_core.specs.Started.{Started, SwitchStands}
use Rattle.switch_core.specs.declared.relay.Relay.{Relay}
use Rattle.tape.specs.JobsStand.{IsOut, JobStands, WasClaimed}
use Rattle.tape.proofs.JobBodies.{bodies_stay_out}
use Rattle.tape.proofs.JobsClaimed.{cipher_kept}

-- where nothing differs there is no place

no-place : {A : Type 0} (start other : A) (given home : List (List ℕ)) (place : Option ℕ) → other ≡ start →
    home ≡ given → IsFirstDifference start other given home place → place ≡ None
no-place start other given home None same all first = refl
no-place start other given home (Some zero) same all first = absurd (first same)
no-place start other given home (Some (suc i)) same all first = absurd (first.1.here (ap (λ l. slice_get l i) all))

-- a live circuit, its relay, and the cipher that is out

record IsThere (slot : Option CircuitState) : Type 0 where
  circuit : CircuitState
  is : slot ≡ Some circuit

there-by : (rules : Rules) (closes : List Ordered) (slot : Option CircuitState) (c : ℕ) (p : Past) (has_id : ℕ → Bool)
    (e : EdgePast) → CircuitAt rules closes slot c p has_id e → p.live ≡ true → IsThere slot
there-by rules closes None c p has_id e gone live = let no : true ≡ false = sym live ∙ gone.live in absurd cc
there-by rules closes (Some x) c p has_id e own live = record { circuit = x; is = refl }

record HasRelay (rules : Rules) (slot : Option Relay) (ev : List Event) (sealed : ℕ) : Type 0 where
  relay : Relay
  is : slot ≡ Some relay
  stands : RelayStands relay rules ev sealed

relay-by : (live : Bool) (slot : Option Relay) (rules : Rules) (ev : List Event) (sealed : ℕ) →
    RelayAt live slot rules ev sealed → live ≡ true → HasRelay rules slot ev sealed
relay-by false slot rules ev sealed at up = absurd cc
relay-by true None rules ev sealed at up = absurd at
relay-by true (Some relay) rules ev sealed at up = record { relay = relay; is = refl; stands = at }

start-by : (relay : Relay) (dir : Dir) → start_out (Some relay) dir ≡ Some (cipher_at relay dir)
start-by relay Forth = refl
start-by relay Back = refl

bodies-now : (start : SwitchStart) (h : List Step) (job : JobParts) (note : ClaimNote) → IsLegal start h →
    (was : WasClaimed start.rules h job note) → job.bodies.items ≡ claimed_bodies start.rules h note
bodies-now start h job note legal was =
    was.bodies
    ∙ sym (claimed_bodies_stay start was.newer was.older was.worker note
    (subst (λ l. IsLegal start l) (sym was.steps) legal))
    ∙ ap (λ l. claimed_bodies start.rules l note) was.steps

pub job_differs_nowhere : (s : Started) (h : List Step) (claim : ℕ) (job : JobParts) (note : ClaimNote)
    (place : Option ℕ) → SwitchStands s h → JobStands s.start.rules h claim job note →
    is_live_circuit s.start.rules h note.circ.0 ≡ true →
    IsPlace s.relays s.state note job.cipher job.bodies.items place → place ≡ None
job_differs_nowhere s h claim job note place st stands live first =
    let rules = s.start.rules in
    let c = note.circ.0 in
    let there : IsThere (slot_at s.state.circuits c) =
    there-by rules s.state.last_closes (slot_at s.state.circuits c) c (past rules h c) (λ j. holds_id h c j)
    (edge_past rules h c) (st.state.circuits.circuit c) live in
    let kept_relay : HasRelay rules (slot_at s.relays c) (events rules h c) (past rules h c).sealed_count =
    relay-by (is_live_circuit rules h c) (slot_at s.relays c) rules (events rules h c) _ (st.relays.relay c) live in
    let out : IsOut rules h job note = stands.out live in
    let cipher : job.cipher ≡ cipher_at kept_relay.relay note.dir =
    out.cipher ∙ sym (cipher_kept rules kept_relay.relay (past rules h c) note.dir kept_relay.stands) in
    let start : Some job.cipher ≡ start_out (slot_at s.relays c) note.dir =
    ap Some cipher ∙ sym (start-by kept_relay.relay note.dir) ∙ ap (λ o. start_out o note.dir) (sym kept_relay.is) in
    let bodies : job.bodies.items ≡ bodies_out (slot_at s.state.circuits c) note.dir =
    bodies-now s.start h job note st.state.steps.legal stands.origin
    ∙ sym (bodies_stay_out s.start s.state h note there.circuit note.dir st.state there.is out.claim_out)
    ∙ ap (λ o. bodies_out o note.dir) (sym there.is) in
    no-place _ _ _ _ place start bodies first

-- the answer

same-self : (note : ClaimNote) → same_note note note ≡ true
same-self note =
    rw (
      self_eq note.switch,
      self_eq note.claim,
      self_eq note.worker,
      self-way (way_of note),
      self_eq note.first,
      self_eq note.count,
    )
    refl

pub return_passes : (start : SwitchStart) (h : List Step) (note : ClaimNote) (answer : BackAnswer) →
    note.switch ≡ start.name → note.circ.0 < circuits h → is_live_circuit start.rules h note.circ.0 ≡ true →
    claim_out h (way_of note) ≡ Some note →
    return_answer start h note None answer ≡ answer
return_passes start h note answer name opened live out =
    let own : (note.switch == start.name) ≡ true = ap (λ n. n == start.name) name ∙ self_eq start.name in
    let inside : nat_lt note.circ.0 (circuits h) ≡ true = lt-ltb note.circ.0 (circuits h) opened in
    rw (own, inside, live, out, same-self note) refl

pub return_gone : (start : SwitchStart) (h : List Step) (note : ClaimNote) (place : Option ℕ) (answer : BackAnswer) →
    note.switch ≡ start.name → note.circ.0 < circuits h → is_live_circuit start.rules h note.circ.0 ≡ false →
    return_answer start h note place answer ≡ Gone
return_gone start h note place answer name opened torn =
    let own : (note.switch == start.name) ≡ true = ap (λ n. n == start.name) name ∙ self_eq start.name in
    let inside : nat_lt note.circ.0 (circuits h) ≡ true = lt-ltb note.circ.0 (circuits h) opened in
    rw (own, inside, torn) refl

abbrev pub IsOwn : BackAnswer → Type 0
IsOwn (Stranger why) = ⊥
IsOwn Gone = ⊤
IsOwn Settled = ⊤
IsOwn (Down reason) = ⊤

done-by-own : (reason : Option ℕ) → IsOwn (done_by reason)
done-by-own None = tt
done-by-own (Some reason) = tt

pub done_own : (rules : Rules) (h : List Step) (note : ClaimNote) (dir : Dir) → IsOwn (done rules h note dir)
done_own rules h note Back = tt
done_own rules h note Forth = done-by-own _

own-by : (start : SwitchStart) (h : List Step) (claim : ℕ) (job : JobParts) (note : ClaimNote) (answer : BackAnswer)
    (b : Bool) → is_live_circuit start.rules h note.circ.0 ≡ b → start.name ≡ 0 →
    JobStands start.rules h claim job note → IsOwn answer →
    IsOwn (return_answer start h note None answer)
own-by start h claim job note answer true live name stands own =
    subst IsOwn
    (sym (return_passes start h note answer (stands.switch ∙ sym name) stands.opened live (stands.out live).claim_out)) own
own-by start h claim job note answer false torn name stands own =
    subst IsOwn (sym (return_gone start h note None answer (stands.switch ∙ sym name) stands.opened torn)) tt

pub return_own : (start : SwitchStart) (h : List Step) (claim : ℕ) (job : JobParts) (note : ClaimNote)
    (answer : BackAnswer) → start.name ≡ 0 → JobStands start.rules h claim job note → IsOwn answer →
    IsOwn (return_answer start h note None answer)
return_own start h claim job note answer name stands own =
    own-by start h claim job note answer (is_live_circuit start.rules h note.circ.0) refl name stands own
