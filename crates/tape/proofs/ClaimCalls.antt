-- A claim makes the step of its record.
use Rattle.std.proofs.Common.{◌≡◌, ℕ, ◌==◌, if◌then◌else◌, List, ◌∷◌, Option, Some, None, refl, ap, ◌∙◌, subst}
use Rattle.hop_crypto.specs.declared.parts.JobParts.{JobParts}
use Rattle.tr_io.specs.PortSteps.{IfJob}
use Rattle.tr_io.specs.declared.answers.ClaimAnswer.{ClaimAnswer}
use Rattle.tr_io.specs.declared.answers.ClaimAnswer.TheVariants as Claims
use Rattle.tr_io.specs.declared.names.ClaimNote.{ClaimNote}
use Rattle.tr_io.specs.declared.step.Step.{Step}
use Rattle.tr_io.specs.declared.step.Step.TheVariants as Steps
use Rattle.switch_model.specs.Answers.Claim.{claim_answer}
use Rattle.switch_model.specs.Legal.{IsLegal}
use Rattle.switch_model.specs.Start.{SwitchStart}
use Rattle.switch_core.specs.Claiming.{Carries, ClaimCase, given_note}
use Rattle.switch_core.specs.Started.{Started, SwitchAdds, SwitchStands}
use Rattle.tape.specs.declared.record.Record.TheVariants.{Claim}
use Rattle.tape.specs.Playing.{Makes, PlayerStands}
use Rattle.tape.specs.Steps.{tape_start}
use Rattle.tape.proofs.JobsClaimed.{jobs_claimed}
use Rattle.tape.proofs.JobsStay.{jobs_stay}

pub job_given : (old new : Started) (worker : ℕ) (a : ClaimAnswer JobParts) (job : JobParts) (note : ClaimNote)
    (jobs now : ℕ → Option JobParts) → old.start ≡ tape_start old.start.rules → a ≡ Claims.Job job → note ≡ job.note →
    ClaimCase a (new ≡ old) (SwitchAdds old new (Steps.Claim worker (given_note a))) →
    IfJob (Carries old.relays old.state) a →
    ((claim : ℕ) → now claim ≡ (if job.note.claim == claim then Some job else jobs claim)) →
    Makes old.start.rules (Claim worker) (record { switch = old; jobs = jobs }) (record { switch = new; jobs = now })
    (Some note) (λ h. claim_answer (tape_start old.start.rules) h worker)
unfolding SwitchAdds
job_given old new worker a job note jobs now is given its added has put =
    let adds : SwitchAdds old new (Steps.Claim worker (Some job.note)) =
    subst (λ x. ClaimCase x (new ≡ old) (SwitchAdds old new (Steps.Claim worker (given_note x)))) given added in
    let carries : Carries old.relays old.state job = subst (IfJob (Carries old.relays old.state)) given has in
    let name : old.start.name ≡ 0 = ap (λ (s : SwitchStart). s.name) is in
    let legal : (h : List Step) → SwitchStands old h → IsLegal old.start (Steps.Claim worker (Some job.note) ∷ h) =
    λ h st. subst (λ s. IsLegal s (Steps.Claim worker (Some job.note) ∷ h)) adds.start
    (adds.stands h st).state.steps.legal in
    let right : (h : List Step) → SwitchStands old h →
    Some job.note ≡ claim_answer (tape_start old.start.rules) h worker =
    λ h st. (legal h st).0.1 ∙ ap (λ s. claim_answer s h worker) is in
    record {
      stands = λ h st.
          subst (λ a. PlayerStands old.start.rules (record { switch = new; jobs = now }) (Steps.Claim worker a ∷ h))
          (right h st.switch) (record {
            switch = adds.stands h st.switch;
            jobs = jobs_claimed old h worker job jobs now name st.switch (legal h st.switch) carries put st.jobs;
            own = (tt, st.own);
          });
      right_is = λ h st. ap Some its ∙ right h st.switch;
    }

pub nothing_given : (old new : Started) (worker : ℕ) (a : ClaimAnswer JobParts) (jobs : ℕ → Option JobParts) →
    old.start ≡ tape_start old.start.rules → a ≡ Claims.Nothing →
    ClaimCase a (new ≡ old) (SwitchAdds old new (Steps.Claim worker (given_note a))) →
    Makes old.start.rules (Claim worker) (record { switch = old; jobs = jobs })
    (record { switch = new; jobs = jobs }) None (λ h. claim_answer (tape_start old.start.rules) h worker)
unfolding SwitchAdds
nothing_given old new worker a jobs is nothing added =
    let adds : SwitchAdds old new (Steps.Claim worker None) =
    subst (λ x. ClaimCase x (new ≡ old) (SwitchAdds old new (Steps.Claim worker (given_note x)))) nothing added in
    let legal : (h : List Step) → SwitchStands old h → IsLegal old.start (Steps.Claim worker None ∷ h) =
    λ h st. subst (λ s. IsLegal s (Steps.Claim worker None ∷ h)) adds.start (adds.stands h st).state.steps.legal in
    let right : (h : List Step) → SwitchStands old h → None ≡ claim_answer (tape_start old.start.rules) h worker =
    λ h st. (legal h st).0.1 ∙ ap (λ s. claim_answer s h worker) is in
    record {
      stands = λ h st.
          subst (λ a. PlayerStands old.start.rules (record { switch = new; jobs = jobs }) (Steps.Claim worker a ∷ h))
          (right h st.switch) (record {
            switch = adds.stands h st.switch;
            jobs =
                jobs_stay old.start h (Steps.Claim worker None) jobs (legal h st.switch)
                (record { jobs = λ l claim. refl; leaves = λ l note. record { claim_out = refl; away = refl }; own = tt })
                st.jobs;
            own = (tt, st.own);
          });
      right_is = λ h st. right h st.switch;
    }
