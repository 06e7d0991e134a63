-- What a return that takes a job home says of one history, and the return of a job that isn't kept.
use Rattle.std.proofs.Common.{◌≡◌, ℕ, ◌==◌, if◌then◌else◌, List, ◌∷◌, Option, None, option_map, sym, ap, subst}
use Rattle.hop_crypto.specs.declared.parts.JobParts.{JobParts}
use Rattle.tr_io.specs.declared.answers.BackAnswer.{BackAnswer}
use Rattle.tr_io.specs.declared.step.Step.{Step}
use Rattle.tr_io.specs.declared.step.Step.TheVariants as Steps
use Rattle.switch_core.specs.Started.{Started}
use Rattle.tape.specs.declared.record.Record.TheVariants.{GiveBack, Abandon}
use Rattle.tape.specs.KeptJobs.{kept_job}
use Rattle.tape.specs.Playing.{Makes, PlayerStands}
use Rattle.tape.specs.Steps.{with_step, give_back_of, abandon_of}
use Rattle.tape.proofs.JobsReturned.{jobs_unkept, none_there}

-- The jobs without the one of a claim.
abbrev pub Without : (jobs now : ℕ → Option JobParts) → ℕ → Type 0
Without jobs now claim = (number : ℕ) → now number ≡ (if claim == number then None else jobs number)

-- What a return of a kept job says of one history.
pub record ComesHome (old new : Started) (h : List Step) (now : ℕ → Option JobParts) (a right : BackAnswer)
    (step : BackAnswer → Step) : Type 0 where
  pub is_right : a ≡ right
  pub stands : PlayerStands old.start.rules (record { switch = new; jobs = now }) (step right ∷ h)

-- a job that isn't kept

pub none_given_back : (s : Started) (claim : ℕ) (jobs now : ℕ → Option JobParts) → jobs claim ≡ None →
    Without jobs now claim →
    Makes s.start.rules (GiveBack claim) (record { switch = s; jobs = jobs }) (record { switch = s; jobs = now }) None
    (λ h. option_map (give_back_of s.start.rules h) (kept_job h claim))
none_given_back s claim jobs now none put =
    let rules = s.start.rules in
    let gone : (h : List Step) → PlayerStands rules (record { switch = s; jobs = jobs }) h → kept_job h claim ≡ None =
    λ h st. none_there rules h claim (jobs claim) (kept_job h claim) (st.jobs.job claim) none in
    record {
      stands = λ h st.
          subst (λ k. PlayerStands rules (record { switch = s; jobs = now })
          (with_step (option_map (λ n. Steps.GiveBack n None (give_back_of rules h n)) k) h)) (sym (gone h st))
          (record {
            switch = st.switch;
            jobs = jobs_unkept rules h claim jobs now (gone h st) put st.jobs;
            own = st.own;
          });
      right_is = λ h st. ap (option_map (give_back_of rules h)) (sym (gone h st));
    }

pub none_abandoned : (s : Started) (claim : ℕ) (jobs now : ℕ → Option JobParts) → jobs claim ≡ None →
    Without jobs now claim →
    Makes s.start.rules (Abandon claim) (record { switch = s; jobs = jobs }) (record { switch = s; jobs = now }) None
    (λ h. option_map (abandon_of s.start.rules h) (kept_job h claim))
none_abandoned s claim jobs now none put =
    let rules = s.start.rules in
    let gone : (h : List Step) → PlayerStands rules (record { switch = s; jobs = jobs }) h → kept_job h claim ≡ None =
    λ h st. none_there rules h claim (jobs claim) (kept_job h claim) (st.jobs.job claim) none in
    record {
      stands = λ h st.
          subst (λ k. PlayerStands rules (record { switch = s; jobs = now })
          (with_step (option_map (λ n. Steps.Abandon n None (abandon_of rules h n)) k) h)) (sym (gone h st))
          (record {
            switch = st.switch;
            jobs = jobs_unkept rules h claim jobs now (gone h st) put st.jobs;
            own = st.own;
          });
      right_is = λ h st. ap (option_map (abandon_of rules h)) (sym (gone h st));
    }
