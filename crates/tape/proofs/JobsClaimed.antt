-- The jobs that are kept, behind a claim.
use Rattle.std.proofs.Common.{◌≡◌, ℕ, ◌<◌, ◌==◌, Bool, true, false, if◌then◌else◌, List, [], ◌∷◌, Option, Some, None, option_map, refl, sym, ap, ◌∙◌, subst, inl, inr}
use Rattle.std.proofs.lemmas.Bool.{cases_lt}
use Rattle.circuit_model.specs.Rules.{Rules}
use Rattle.hop_crypto.specs.declared.parts.JobParts.{JobParts}
use Rattle.tr_io.specs.declared.names.ClaimNote.{ClaimNote}
use Rattle.tr_io.specs.declared.names.Dir.{Dir}
use Rattle.tr_io.specs.declared.names.Dir.TheVariants.{Forth, Back}
use Rattle.tr_io.specs.declared.step.Step.{Step}
use Rattle.tr_io.specs.declared.step.Step.TheVariants.{Claim}
use Rattle.switch_model.specs.Answers.Claim.{note_for}
use Rattle.switch_model.specs.History.Circuit.{events, is_live_circuit}
use Rattle.switch_model.specs.History.Legs.{circuits}
use Rattle.switch_model.specs.History.Past.{Past, past}
use Rattle.switch_model.specs.Legal.{IsLegal}
use Rattle.switch_model.specs.Names.{Way, same_way, way_of}
use Rattle.switch_model.specs.Start.{SwitchStart}
use Rattle.switch_model.specs.Waiting.Claims.{claim_out, next_way}
use Rattle.switch_model.proofs.ClaimFinds.{way-is}
use Rattle.switch_model.proofs.Claiming.{Claimed, claimed-by}
use Rattle.switch_model.proofs.Common.{same-number}
use Rattle.switch_model.proofs.Unopened.{not-yet}
use Rattle.switch_machine.specs.State.{slot_at}
use Rattle.switch_machine.proofs.GiveBack.Home.{self-way}
use Rattle.switch_core.specs.Claiming.{Carries, cipher_at}
use Rattle.switch_core.specs.Relays.{RelayStands}
use Rattle.switch_core.specs.Started.{Started, SwitchStands}
use Rattle.switch_core.specs.declared.relay.Relay.{Relay}
use Rattle.switch_core.proofs.ForthHome.{relay_of}
use Rattle.tape.specs.JobsStand.{way_cipher, JobAt, JobsStand, JobStands}
use Rattle.tape.specs.KeptJobs.{kept_job}
use Rattle.tape.proofs.Ciphers.{cipher_stays}
use Rattle.tape.proofs.JobBodies.{bodies_left, bodies_taken}
use Rattle.tape.proofs.JobsStay.{at_stays, LeavesOut}

-- the cipher that a relay keeps is that of the history
pub cipher_kept : (rules : Rules) (relay : Relay) (p : Past) (dir : Dir) →
    RelayStands relay rules p.events p.sealed_count → cipher_at relay dir ≡ way_cipher rules p dir
cipher_kept rules relay p Forth stands = stands.forth
cipher_kept rules relay p Back stands = stands.back

-- what the note of a claim says

switch-by : (start : SwitchStart) (h : List Step) (worker : ℕ) (note : ClaimNote) (o : Option Way) →
    Some note ≡ option_map (note_for start h worker) o → note.switch ≡ start.name
switch-by start h worker note None is = absurd cc
switch-by start h worker note (Some way) is =
    let same : note ≡ note_for start h worker way = cc in ap (λ (n : ClaimNote). n.switch) same

live-opened : (start : SwitchStart) (h : List Step) (c : ℕ) → IsLegal start h → is_live_circuit start.rules h c ≡ true →
    c < circuits h
live-opened start h c legal live = elim (cases_lt c (circuits h)) [
  | inl below ↦ below
  | inr beyond ↦ (let no : true ≡ false = sym live ∙ (not-yet start h legal c Forth beyond).torn in absurd cc)
]

-- the job of a claim

pub job_claimed : (s : Started) (h : List Step) (worker : ℕ) (job : JobParts) → s.start.name ≡ 0 → SwitchStands s h →
    IsLegal s.start (Claim worker (Some job.note) ∷ h) → Carries s.relays s.state job →
    JobStands s.start.rules (Claim worker (Some job.note) ∷ h) job.note.claim job job.note
job_claimed s h worker job name st legal carries =
    let rules = s.start.rules in
    let note = job.note in
    let taken : Claimed s.start h note = claimed-by s.start h worker note legal.0.1 in
    let relay : RelayStands carries.relay rules (events rules h note.circ.0) (past rules h note.circ.0).sealed_count =
    relay_of _ (slot_at s.relays note.circ.0) carries.relay rules (events rules h note.circ.0) _
    (st.relays.relay note.circ.0) taken.live carries.relay_is in
    record {
      note_is = refl;
      number = refl;
      switch = switch-by s.start h worker note (next_way rules h) legal.0.1 ∙ name;
      opened = live-opened s.start h note.circ.0 legal.1 taken.live;
      origin = record {
        newer = [];
        worker = worker;
        older = h;
        steps = refl;
        bodies =
            carries.bodies
            ∙ bodies_taken s.start s.state h note carries.circuit note.dir st.state carries.live taken.home taken.first
            ∙ bodies_left rules h worker note note note.dir;
      };
      out = λ live. record {
        claim_out = rw (self-way (way_of note)) refl;
        cipher =
            carries.cipher
            ∙ cipher_kept rules carries.relay (past rules h note.circ.0) note.dir relay
            ∙ sym (cipher_stays rules h (Claim worker (Some note)) note.circ.0 note.dir refl refl);
      };
    }

-- the others

apart-by : (h : List Step) (note other : ClaimNote) (b : Bool) → same_way (way_of note) (way_of other) ≡ b →
    claim_out h (way_of note) ≡ None → claim_out h (way_of other) ≡ Some other → b ≡ false
apart-by h note other true is home out =
    let same : claim_out h (way_of note) ≡ Some other =
    subst (λ (w : Way). claim_out h w ≡ Some other) (sym (way-is (way_of note) (way_of other) is)) out in
    let no : None ≡ Some other = sym home ∙ same in
    absurd cc
apart-by h note other false is home out = refl

claim-leaves : (h : List Step) (worker : ℕ) (note other : ClaimNote) → claim_out h (way_of note) ≡ None →
    claim_out h (way_of other) ≡ Some other → LeavesOut h (Claim worker (Some note)) other
claim-leaves h worker note other home out =
    let apart : same_way (way_of note) (way_of other) ≡ false =
    apart-by h note other (same_way (way_of note) (way_of other)) refl home out in
    record { claim_out = rw apart refl; away = refl }

claimed-at : (start : SwitchStart) (h : List Step) (worker : ℕ) (job : JobParts) (jobs : ℕ → Option JobParts) (claim : ℕ)
    (b : Bool) → (job.note.claim == claim) ≡ b → IsLegal start (Claim worker (Some job.note) ∷ h) →
    claim_out h (way_of job.note) ≡ None →
    JobStands start.rules (Claim worker (Some job.note) ∷ h) job.note.claim job job.note →
    JobAt start.rules h claim (jobs claim) (kept_job h claim) →
    JobAt start.rules (Claim worker (Some job.note) ∷ h) claim (if b then Some job else jobs claim)
    (if b then Some job.note else kept_job h claim)
claimed-at start h worker job jobs claim true is legal home own at =
    subst (λ n. JobStands start.rules (Claim worker (Some job.note) ∷ h) n job job.note)
    (same-number job.note.claim claim is) own
claimed-at start h worker job jobs claim false is legal home own at =
    at_stays start h (Claim worker (Some job.note)) claim (jobs claim) (kept_job h claim) legal
    (λ other number live out. claim-leaves h worker job.note other home out) at

pub jobs_claimed : (s : Started) (h : List Step) (worker : ℕ) (job : JobParts) (jobs now : ℕ → Option JobParts) →
    s.start.name ≡ 0 → SwitchStands s h → IsLegal s.start (Claim worker (Some job.note) ∷ h) →
    Carries s.relays s.state job →
    ((claim : ℕ) → now claim ≡ (if job.note.claim == claim then Some job else jobs claim)) →
    JobsStand s.start.rules h jobs → JobsStand s.start.rules (Claim worker (Some job.note) ∷ h) now
jobs_claimed s h worker job jobs now name st legal carries put stand = record {
  job = λ claim.
      subst (λ o. JobAt s.start.rules (Claim worker (Some job.note) ∷ h) claim o
      (kept_job (Claim worker (Some job.note) ∷ h) claim)) (sym (put claim))
      (claimed-at s.start h worker job jobs claim (job.note.claim == claim) refl legal
      (claimed-by s.start h worker job.note legal.0.1).home (job_claimed s h worker job name st legal carries)
      (stand.job claim));
}
