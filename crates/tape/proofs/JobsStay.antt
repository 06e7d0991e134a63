-- The jobs that are kept, behind a step that neither gives one out nor takes one home.
use Rattle.std.proofs.Common.{◌≡◌, ℕ, ◌<◌, true, false, List, ◌∷◌, Option, Some, None, sym, ap, ◌∙◌, subst, arith}
use Rattle.hop_crypto.specs.declared.parts.JobParts.{JobParts}
use Rattle.tr_io.specs.declared.answers.OpenAnswer.TheVariants.{Opened}
use Rattle.tr_io.specs.declared.names.ClaimNote.{ClaimNote}
use Rattle.tr_io.specs.declared.step.Step.{Step}
use Rattle.tr_io.specs.declared.step.Step.TheVariants.{OpenCircuit}
use Rattle.switch_model.specs.History.Circuit.{is_live_circuit}
use Rattle.switch_model.specs.History.Legs.{circuits}
use Rattle.switch_model.specs.Legal.{IsLegal}
use Rattle.switch_model.specs.Names.{way_of}
use Rattle.switch_model.specs.Start.{SwitchStart}
use Rattle.switch_model.specs.Waiting.Claims.{claim_out}
use Rattle.switch_model.proofs.StaysTorn.{not-opened}
use Rattle.switch_model.proofs.Ways.{brings_home, was-live}
use Rattle.tape.specs.JobsStand.{IsOut, JobAt, JobsStand, JobStands}
use Rattle.tape.specs.KeptJobs.{IsNoStranger, kept_job}
use Rattle.tape.proofs.Ciphers.{cipher_stays}

-- A step leaves the claim with this note out.
pub record LeavesOut (h : List Step) (s : Step) (note : ClaimNote) : Type 0 where
  pub claim_out : claim_out (s ∷ h) (way_of note) ≡ claim_out h (way_of note)
  pub away : brings_home note.circ.0 note.dir s ≡ false

-- It does so for each claim with this number that is out.
abbrev pub LeavesNumber : SwitchStart → List Step → Step → ℕ → Type 0
LeavesNumber start h s claim =
    (note : ClaimNote) → note.claim ≡ claim → is_live_circuit start.rules h note.circ.0 ≡ true →
    claim_out h (way_of note) ≡ Some note → LeavesOut h s note

out-stays : (start : SwitchStart) (h : List Step) (s : Step) (claim : ℕ) (job : JobParts) (note : ClaimNote) →
    IsLegal start (s ∷ h) → LeavesNumber start h s claim → JobStands start.rules h claim job note →
    is_live_circuit start.rules (s ∷ h) note.circ.0 ≡ true → IsOut start.rules (s ∷ h) job note
out-stays start h s claim job note legal leaves stands live =
    let unopened = not-opened start h s note.circ.0 legal stands.opened in
    let was = was-live start.rules h s note.circ.0 unopened live in
    let before : IsOut start.rules h job note = stands.out was in
    let leave : LeavesOut h s note = leaves note stands.number was before.claim_out in
    record {
      claim_out = leave.claim_out ∙ before.claim_out;
      cipher = before.cipher ∙ sym (cipher_stays start.rules h s note.circ.0 note.dir unopened leave.away);
    }

-- a circuit that was opened stays opened
opened-stays : (h : List Step) (s : Step) (c : ℕ) → c < circuits h → c < circuits (s ∷ h)
opened-stays h (OpenCircuit chan id reply keys pad (Opened n)) c was = omega (arith, was)
opened-stays h s c was = was

pub job_stays : (start : SwitchStart) (h : List Step) (s : Step) (claim : ℕ) (job : JobParts) (note : ClaimNote) →
    IsLegal start (s ∷ h) → LeavesNumber start h s claim → JobStands start.rules h claim job note →
    JobStands start.rules (s ∷ h) claim job note
job_stays start h s claim job note legal leaves stands = record {
  note_is = stands.note_is;
  number = stands.number;
  switch = stands.switch;
  opened = opened-stays h s note.circ.0 stands.opened;
  origin = record {
    newer = s ∷ stands.origin.newer;
    worker = stands.origin.worker;
    older = stands.origin.older;
    steps = ap (λ l. s ∷ l) stands.origin.steps;
    bodies = stands.origin.bodies;
  };
  out = λ live. out-stays start h s claim job note legal leaves stands live;
}

pub at_stays : (start : SwitchStart) (h : List Step) (s : Step) (claim : ℕ) (o : Option JobParts) (k : Option ClaimNote) →
    IsLegal start (s ∷ h) → LeavesNumber start h s claim → JobAt start.rules h claim o k →
    JobAt start.rules (s ∷ h) claim o k
at_stays start h s claim None None legal leaves at = tt
at_stays start h s claim (Some job) (Some note) legal leaves at = job_stays start h s claim job note legal leaves at
at_stays start h s claim (Some job) None legal leaves at = absurd at
at_stays start h s claim None (Some note) legal leaves at = absurd at

-- A step that neither gives a job out nor takes one home.
pub record IsQuiet (s : Step) : Type 0 where
  pub jobs : (h : List Step) (claim : ℕ) → kept_job (s ∷ h) claim ≡ kept_job h claim
  pub leaves : (h : List Step) (note : ClaimNote) → LeavesOut h s note
  pub own : IsNoStranger s

pub jobs_stay : (start : SwitchStart) (h : List Step) (s : Step) (jobs : ℕ → Option JobParts) → IsLegal start (s ∷ h) →
    IsQuiet s → JobsStand start.rules h jobs → JobsStand start.rules (s ∷ h) jobs
jobs_stay start h s jobs legal quiet stand = record {
  job = λ claim.
      subst (λ k. JobAt start.rules (s ∷ h) claim (jobs claim) k) (sym (quiet.jobs h claim))
      (at_stays start h s claim (jobs claim) (kept_job h claim) legal (λ note number live out. quiet.leaves h note)
      (stand.job claim));
}
