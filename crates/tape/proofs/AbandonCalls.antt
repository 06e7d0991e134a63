-- The return of an undone job makes the step of its record.
use Rattle.std.proofs.Common.{◌≡◌, ℕ, Bool, true, false, List, ◌∷◌, Option, Some, None, option_map, refl, sym, ap, ◌∙◌, subst}
use Rattle.hop_crypto.specs.declared.parts.JobParts.{JobParts}
use Rattle.tor_spec.specs.Reasons.{destroy_internal}
use Rattle.tr_io.specs.declared.answers.BackAnswer.{BackAnswer}
use Rattle.tr_io.specs.declared.answers.BackAnswer.TheVariants.{Gone, Stranger, Settled, Down}
use Rattle.tr_io.specs.declared.names.ClaimNote.{ClaimNote}
use Rattle.tr_io.specs.declared.step.Step.{Step}
use Rattle.tr_io.specs.declared.step.Step.TheVariants as Steps
use Rattle.switch_model.specs.Answers.Abandon.{abandon_answer}
use Rattle.switch_model.specs.History.Circuit.{is_live_circuit}
use Rattle.switch_model.specs.Legal.{IsLegal}
use Rattle.switch_model.specs.Start.{SwitchStart}
use Rattle.switch_core.specs.Returning.{OfPlace}
use Rattle.switch_core.specs.Started.{Started, SwitchAdds, SwitchStands}
use Rattle.tape.specs.declared.record.Record.TheVariants.{Abandon}
use Rattle.tape.specs.JobsStand.{JobStands}
use Rattle.tape.specs.KeptJobs.{IsNoStranger, kept_job}
use Rattle.tape.specs.Playing.{Makes, PlayerStands}
use Rattle.tape.specs.Steps.{tape_start, with_step, abandon_of}
use Rattle.tape.proofs.JobPlaces.{IsOwn, job_differs_nowhere, return_gone, return_own}
use Rattle.tape.proofs.JobsReturned.{abandoned, jobs_returned, job_there, IsKeptJob}
use Rattle.tape.proofs.Placeless.{abandoned_to_gone}
use Rattle.tape.proofs.ReturnCalls.{ComesHome, Without}

abandoned-own : (note : ClaimNote) (a : BackAnswer) → IsOwn a → IsNoStranger (Steps.Abandon note None a)
abandoned-own note Settled own = tt
abandoned-own note (Down reason) own = tt
abandoned-own note Gone own = tt
abandoned-own note (Stranger why) own = own

abandoned-behind : (old new : Started) (h : List Step) (claim : ℕ) (job : JobParts) (note : ClaimNote)
    (a : BackAnswer) (b : Bool) → is_live_circuit old.start.rules h note.circ.0 ≡ b → old.start.name ≡ 0 →
    SwitchStands old h → JobStands old.start.rules h claim job note →
    OfPlace old note job.cipher job.bodies.items (λ place. SwitchAdds old new (Steps.Abandon note place a)) →
    SwitchStands new (Steps.Abandon note None a ∷ h)
unfolding SwitchAdds
abandoned-behind old new h claim job note a true live name st stands of =
    subst (λ p. SwitchStands new (Steps.Abandon note p a ∷ h))
    (job_differs_nowhere old h claim job note of.place st stands live of.first) (of.fact.stands h st)
abandoned-behind old new h claim job note a false torn name st stands of =
    let at : SwitchStands new (Steps.Abandon note of.place a ∷ h) = of.fact.stands h st in
    let all_gone : (p : Option ℕ) → abandon_answer new.start h note p ≡ Gone =
    λ p. ap (λ s. abandon_answer s h note p) of.fact.start
    ∙ return_gone old.start h note p (Down destroy_internal) (stands.switch ∙ sym name) stands.opened torn in
    let gone : a ≡ Gone = at.state.steps.legal.0.1 ∙ all_gone of.place in
    subst (λ x. SwitchStands new (Steps.Abandon note None x ∷ h)) (sym gone)
    (abandoned_to_gone new note of.place h (sym (all_gone None))
    (subst (λ x. SwitchStands new (Steps.Abandon note of.place x ∷ h)) gone at))

abandoned-home : (old new : Started) (h : List Step) (claim : ℕ) (job : JobParts) (note : ClaimNote)
    (jobs now : ℕ → Option JobParts) (a : BackAnswer) → old.start ≡ tape_start old.start.rules →
    PlayerStands old.start.rules (record { switch = old; jobs = jobs }) h →
    JobStands old.start.rules h claim job note → Without jobs now claim →
    OfPlace old note job.cipher job.bodies.items (λ place. SwitchAdds old new (Steps.Abandon note place a)) →
    ComesHome old new h now a (abandon_of old.start.rules h note) (λ x. Steps.Abandon note None x)
unfolding SwitchAdds
abandoned-home old new h claim job note jobs now a is st stands put of =
    let name : old.start.name ≡ 0 = ap (λ (s : SwitchStart). s.name) is in
    let behind : SwitchStands new (Steps.Abandon note None a ∷ h) =
    abandoned-behind old new h claim job note a
    (is_live_circuit old.start.rules h note.circ.0) refl name st.switch stands of in
    let legal : IsLegal old.start (Steps.Abandon note None a ∷ h) =
    subst (λ s. IsLegal s (Steps.Abandon note None a ∷ h)) of.fact.start behind.state.steps.legal in
    let own : IsOwn a =
    subst IsOwn (sym legal.0.1) (return_own old.start h claim job note (Down destroy_internal) name stands tt) in
    let right : a ≡ abandon_of old.start.rules h note = legal.0.1 ∙ ap (λ s. abandon_answer s h note None) is in
    record {
      is_right = right;
      stands =
          subst (λ x. PlayerStands old.start.rules (record { switch = new; jobs = now }) (Steps.Abandon note None x ∷ h))
          right (record {
            switch = behind;
            jobs =
                jobs_returned old.start h (Steps.Abandon note None a) note claim job jobs now legal
                (abandoned note None a) stands put st.jobs;
            own = (abandoned-own note a own, st.own);
          });
    }

pub job_abandoned : (old new : Started) (claim : ℕ) (job : JobParts) (jobs now : ℕ → Option JobParts)
    (a : BackAnswer) → old.start ≡ tape_start old.start.rules → jobs claim ≡ Some job → Without jobs now claim →
    OfPlace old job.note job.cipher job.bodies.items (λ place. SwitchAdds old new (Steps.Abandon job.note place a)) →
    Makes old.start.rules (Abandon claim) (record { switch = old; jobs = jobs }) (record { switch = new; jobs = now })
    (Some a) (λ h. option_map (abandon_of old.start.rules h) (kept_job h claim))
job_abandoned old new claim job jobs now a is there put of =
    let rules = old.start.rules in
    let found : (h : List Step) → PlayerStands rules (record { switch = old; jobs = jobs }) h →
    IsKeptJob rules h claim (kept_job h claim) job =
    λ h st. job_there rules h claim (jobs claim) (kept_job h claim) job (st.jobs.job claim) there in
    let home : (h : List Step) (st : PlayerStands rules (record { switch = old; jobs = jobs }) h) →
    ComesHome old new h now a (abandon_of rules h (found h st).note) (λ x. Steps.Abandon (found h st).note None x) =
    λ h st. abandoned-home old new h claim job (found h st).note jobs now a is st (found h st).stands put
    (subst (λ n. OfPlace old n job.cipher job.bodies.items (λ place. SwitchAdds old new (Steps.Abandon n place a)))
    (found h st).stands.note_is of) in
    record {
      stands = λ h st.
          subst (λ k. PlayerStands rules (record { switch = new; jobs = now })
          (with_step (option_map (λ n. Steps.Abandon n None (abandon_of rules h n)) k) h))
          (sym (found h st).is) (home h st).stands;
      right_is = λ h st. ap Some (home h st).is_right ∙ ap (option_map (abandon_of rules h)) (sym (found h st).is);
    }
