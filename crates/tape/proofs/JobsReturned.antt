-- The jobs that are kept, behind the return of one of them.
use Rattle.std.proofs.Common.{◌≡◌, ℕ, ◌==◌, Bool, true, false, if◌then◌else◌, List, ◌∷◌, Option, Some, None, refl, sym, ap, ◌∙◌, subst}
use Rattle.hop_crypto.specs.declared.parts.JobParts.{JobParts}
use Rattle.tr_io.specs.declared.answers.BackAnswer.{BackAnswer}
use Rattle.tr_io.specs.declared.names.ClaimNote.{ClaimNote}
use Rattle.tr_io.specs.declared.step.Step.{Step}
use Rattle.tr_io.specs.declared.step.Step.TheVariants.{GiveBack, Abandon}
use Rattle.circuit_model.specs.Rules.{Rules}
use Rattle.switch_model.specs.History.Circuit.{is_live_circuit}
use Rattle.switch_model.specs.Legal.{IsLegal}
use Rattle.switch_model.specs.Names.{Way, same_way, way_of}
use Rattle.switch_model.specs.Start.{SwitchStart}
use Rattle.switch_model.specs.Waiting.Claims.{claim_out}
use Rattle.switch_model.proofs.ClaimFinds.{way-is}
use Rattle.switch_model.proofs.Common.{self_eq, same-number}
use Rattle.switch_model.proofs.Ways.{brings_home, kept-other}
use Rattle.tape.specs.JobsStand.{JobAt, JobsStand, JobStands}
use Rattle.tape.specs.KeptJobs.{kept_job}
use Rattle.tape.proofs.JobsStay.{at_stays, LeavesOut}

-- A step that takes the job with this note home.
pub record TakesHome (s : Step) (note : ClaimNote) : Type 0 where
  pub jobs : (h : List Step) (claim : ℕ) →
      kept_job (s ∷ h) claim ≡ (if note.claim == claim then None else kept_job h claim)
  pub leaves : (h : List Step) (other : ClaimNote) → same_way (way_of note) (way_of other) ≡ false → LeavesOut h s other

given-leaves : (h : List Step) (note : ClaimNote) (place : Option ℕ) (a : BackAnswer) (other : ClaimNote) →
    same_way (way_of note) (way_of other) ≡ false → LeavesOut h (GiveBack note place a) other
given-leaves h note place a other apart =
    let away : brings_home other.circ.0 other.dir (GiveBack note place a) ≡ false = rw apart refl in
    record { claim_out = kept-other h note place a other.circ.0 other.dir away; away = away }

pub given_back : (note : ClaimNote) (place : Option ℕ) (a : BackAnswer) → TakesHome (GiveBack note place a) note
given_back note place a = record { jobs = λ h claim. refl; leaves = λ h other apart. given-leaves h note place a other apart }

pub abandoned : (note : ClaimNote) (place : Option ℕ) (a : BackAnswer) → TakesHome (Abandon note place a) note
abandoned note place a = record { jobs = λ h claim. refl; leaves = λ h other apart. record { claim_out = refl; away = refl } }

-- what is kept by a number

pub record IsKeptJob (rules : Rules) (h : List Step) (claim : ℕ) (k : Option ClaimNote) (job : JobParts) : Type 0 where
  pub note : ClaimNote
  pub is : k ≡ Some note
  pub stands : JobStands rules h claim job note

pub job_there : (rules : Rules) (h : List Step) (claim : ℕ) (o : Option JobParts) (k : Option ClaimNote)
    (job : JobParts) → JobAt rules h claim o k → o ≡ Some job → IsKeptJob rules h claim k job
job_there rules h claim (Some found) (Some note) job at is =
    let same : found ≡ job = cc in
    record { note = note; is = refl; stands = subst (λ j. JobStands rules h claim j note) same at }
job_there rules h claim None None job at is = absurd cc
job_there rules h claim (Some found) None job at is = absurd at
job_there rules h claim None (Some note) job at is = absurd at

pub none_there : (rules : Rules) (h : List Step) (claim : ℕ) (o : Option JobParts) (k : Option ClaimNote) →
    JobAt rules h claim o k → o ≡ None → k ≡ None
none_there rules h claim None None at is = refl
none_there rules h claim (Some found) (Some note) at is = absurd cc
none_there rules h claim (Some found) None at is = absurd at
none_there rules h claim None (Some note) at is = absurd at

-- no other claim of the direction is out

other-number : (note other : ClaimNote) (claim : ℕ) → (note.claim == claim) ≡ false → other.claim ≡ claim →
    note ≡ other → ⊥
other-number note other claim apart number same =
    let equal : note.claim ≡ claim = ap (λ (n : ClaimNote). n.claim) same ∙ number in
    let yes : (note.claim == claim) ≡ true = ap (λ n. n == claim) equal ∙ self_eq claim in
    let no : true ≡ false = sym yes ∙ apart in
    cc

apart-by : (rules : Rules) (h : List Step) (claim number : ℕ) (job : JobParts) (note other : ClaimNote) (b : Bool) →
    same_way (way_of note) (way_of other) ≡ b → (note.claim == number) ≡ false → other.claim ≡ number →
    JobStands rules h claim job note →
    is_live_circuit rules h other.circ.0 ≡ true → claim_out h (way_of other) ≡ Some other → b ≡ false
apart-by rules h claim number job note other true is differs counted stands live out =
    let same : way_of note ≡ way_of other = way-is (way_of note) (way_of other) is in
    let up : is_live_circuit rules h note.circ.0 ≡ true =
    subst (λ (w : Way). is_live_circuit rules h w.circ ≡ true) (sym same) live in
    let own : claim_out h (way_of other) ≡ Some note =
    subst (λ (w : Way). claim_out h w ≡ Some note) same (stands.out up).claim_out in
    let both : Some note ≡ Some other = sym own ∙ out in
    absurd (other-number note other number differs counted cc)
apart-by rules h claim number job note other false is differs counted stands live out = refl

-- the jobs without it

returned-at : (start : SwitchStart) (h : List Step) (s : Step) (note : ClaimNote) (claim number : ℕ) (job : JobParts)
    (jobs : ℕ → Option JobParts) (b : Bool) → (note.claim == number) ≡ b → IsLegal start (s ∷ h) → TakesHome s note →
    JobStands start.rules h claim job note →
    JobAt start.rules h number (jobs number) (kept_job h number) →
    JobAt start.rules (s ∷ h) number (if b then None else jobs number) (if b then None else kept_job h number)
returned-at start h s note claim number job jobs true is legal takes stands at = tt
returned-at start h s note claim number job jobs false is legal takes stands at =
    at_stays start h s number (jobs number) (kept_job h number) legal
    (λ other counted live out. takes.leaves h other
    (apart-by start.rules h claim number job note other (same_way (way_of note) (way_of other)) refl is counted stands live
    out)) at

pub jobs_returned : (start : SwitchStart) (h : List Step) (s : Step) (note : ClaimNote) (claim : ℕ) (job : JobParts)
    (jobs now : ℕ → Option JobParts) → IsLegal start (s ∷ h) → TakesHome s note →
    JobStands start.rules h claim job note →
    ((number : ℕ) → now number ≡ (if claim == number then None else jobs number)) → JobsStand start.rules h jobs →
    JobsStand start.rules (s ∷ h) now
jobs_returned start h s note claim job jobs now legal takes stands put stand = record {
  job = λ number.
      subst (λ o. JobAt start.rules (s ∷ h) number o (kept_job (s ∷ h) number))
      (sym (put number ∙ ap (λ n. if n == number then None else jobs number) (sym stands.number)))
      (subst (λ k. JobAt start.rules (s ∷ h) number (if note.claim == number then None else jobs number) k)
      (sym (takes.jobs h number))
      (returned-at start h s note claim number job jobs (note.claim == number) refl legal takes stands
      (stand.job number)));
}

-- the return of a job that isn't kept

unkept-at : (rules : Rules) (h : List Step) (claim number : ℕ) (jobs : ℕ → Option JobParts) (b : Bool) →
    (claim == number) ≡ b → kept_job h claim ≡ None → JobAt rules h number (jobs number) (kept_job h number) →
    JobAt rules h number (if b then None else jobs number) (kept_job h number)
unkept-at rules h claim number jobs true is none at =
    subst (λ k. JobAt rules h number None k)
    (sym (ap (λ n. kept_job h n) (sym (same-number claim number is)) ∙ none)) tt
unkept-at rules h claim number jobs false is none at = at

pub jobs_unkept : (rules : Rules) (h : List Step) (claim : ℕ) (jobs now : ℕ → Option JobParts) →
    kept_job h claim ≡ None → ((number : ℕ) → now number ≡ (if claim == number then None else jobs number)) →
    JobsStand rules h jobs → JobsStand rules h now
jobs_unkept rules h claim jobs now none put stand = record {
  job = λ number.
      subst (λ o. JobAt rules h number o (kept_job h number)) (sym (put number))
      (unkept-at rules h claim number jobs (claim == number) refl none (stand.job number));
}
