-- The return of a worked job makes the step of its record.
use Rattle.std.proofs.Common.{◌≡◌, ℕ, Bool, true, false, List, ◌∷◌, Option, Some, None, option_map, refl, sym, ap, ◌∙◌, subst}
use Rattle.cell_codec.specs.Roomy.{Roomy}
use Rattle.hop_crypto.specs.declared.parts.DoneParts.{DoneParts}
use Rattle.hop_crypto.specs.declared.parts.JobParts.{JobParts}
use Rattle.tr_io.specs.declared.answers.BackAnswer.{BackAnswer}
use Rattle.tr_io.specs.declared.answers.BackAnswer.TheVariants.{Gone, Stranger, Settled, Down}
use Rattle.tr_io.specs.declared.names.ClaimNote.{ClaimNote}
use Rattle.tr_io.specs.declared.step.Step.{Step}
use Rattle.tr_io.specs.declared.step.Step.TheVariants as Steps
use Rattle.switch_model.specs.Answers.GiveBack.{give_back_answer, done}
use Rattle.switch_model.specs.History.Circuit.{is_live_circuit}
use Rattle.switch_model.specs.Legal.{IsLegal}
use Rattle.switch_model.specs.Start.{SwitchStart}
use Rattle.switch_core.specs.Returning.{OfPlace}
use Rattle.switch_core.specs.Started.{Started, SwitchAdds, SwitchStands}
use Rattle.tape.specs.declared.record.Record.TheVariants.{GiveBack}
use Rattle.tape.specs.JobsStand.{JobStands}
use Rattle.tape.specs.KeptJobs.{IsNoStranger, kept_job}
use Rattle.tape.specs.Playing.{Makes, PlayerStands}
use Rattle.tape.specs.Steps.{tape_start, with_step, give_back_of}
use Rattle.tape.proofs.JobPlaces.{done_own, IsOwn, job_differs_nowhere, return_gone, return_own}
use Rattle.tape.proofs.JobsReturned.{given_back, jobs_returned, job_there, IsKeptJob}
use Rattle.tape.proofs.Placeless.{given_to_gone}
use Rattle.tape.proofs.ReturnCalls.{ComesHome, Without}

given-own : (note : ClaimNote) (a : BackAnswer) → IsOwn a → IsNoStranger (Steps.GiveBack note None a)
given-own note Settled own = tt
given-own note (Down reason) own = tt
given-own note Gone own = tt
given-own note (Stranger why) own = own

given-behind : (old new : Started) (h : List Step) (claim : ℕ) (job : JobParts) (note : ClaimNote) (a : BackAnswer)
    (b : Bool) → is_live_circuit old.start.rules h note.circ.0 ≡ b → old.start.name ≡ 0 → SwitchStands old h →
    JobStands old.start.rules h claim job note →
    OfPlace old note job.cipher job.bodies.items (λ place. SwitchAdds old new (Steps.GiveBack note place a)) →
    SwitchStands new (Steps.GiveBack note None a ∷ h)
unfolding SwitchAdds
given-behind old new h claim job note a true live name st stands of =
    subst (λ p. SwitchStands new (Steps.GiveBack note p a ∷ h))
    (job_differs_nowhere old h claim job note of.place st stands live of.first) (of.fact.stands h st)
given-behind old new h claim job note a false torn name st stands of =
    let at : SwitchStands new (Steps.GiveBack note of.place a ∷ h) = of.fact.stands h st in
    let all_gone : (p : Option ℕ) → give_back_answer new.start h note p ≡ Gone =
    λ p. ap (λ s. give_back_answer s h note p) of.fact.start
    ∙ return_gone old.start h note p (done old.start.rules h note note.dir) (stands.switch ∙ sym name) stands.opened torn in
    let gone : a ≡ Gone = at.state.steps.legal.0.1 ∙ all_gone of.place in
    subst (λ x. SwitchStands new (Steps.GiveBack note None x ∷ h)) (sym gone)
    (given_to_gone new note of.place h (sym (all_gone None))
    (subst (λ x. SwitchStands new (Steps.GiveBack note of.place x ∷ h)) gone at))

given-home : (old new : Started) (h : List Step) (claim : ℕ) (job : JobParts) (note : ClaimNote)
    (jobs now : ℕ → Option JobParts) (a : BackAnswer) → old.start ≡ tape_start old.start.rules →
    PlayerStands old.start.rules (record { switch = old; jobs = jobs }) h →
    JobStands old.start.rules h claim job note → Without jobs now claim →
    OfPlace old note job.cipher job.bodies.items (λ place. SwitchAdds old new (Steps.GiveBack note place a)) →
    ComesHome old new h now a (give_back_of old.start.rules h note) (λ x. Steps.GiveBack note None x)
unfolding SwitchAdds
given-home old new h claim job note jobs now a is st stands put of =
    let name : old.start.name ≡ 0 = ap (λ (s : SwitchStart). s.name) is in
    let behind : SwitchStands new (Steps.GiveBack note None a ∷ h) =
    given-behind old new h claim job note a
    (is_live_circuit old.start.rules h note.circ.0) refl name st.switch stands of in
    let legal : IsLegal old.start (Steps.GiveBack note None a ∷ h) =
    subst (λ s. IsLegal s (Steps.GiveBack note None a ∷ h)) of.fact.start behind.state.steps.legal in
    let own : IsOwn a =
    subst IsOwn (sym legal.0.1)
    (return_own old.start h claim job note (done old.start.rules h note note.dir) name stands
    (done_own old.start.rules h note note.dir)) in
    let right : a ≡ give_back_of old.start.rules h note = legal.0.1 ∙ ap (λ s. give_back_answer s h note None) is in
    record {
      is_right = right;
      stands =
          subst (λ x. PlayerStands old.start.rules (record { switch = new; jobs = now }) (Steps.GiveBack note None x ∷ h))
          right (record {
            switch = behind;
            jobs =
                jobs_returned old.start h (Steps.GiveBack note None a) note claim job jobs now legal
                (given_back note None a) stands put st.jobs;
            own = (given-own note a own, st.own);
          });
    }

-- The return of a job as the job's parts say.
of_done : (old new : Started) (job : JobParts) (done_parts : DoneParts) (a : BackAnswer) →
    done_parts.note ≡ job.note → done_parts.start ≡ job.cipher → done_parts.input ≡ job.bodies →
    OfPlace old done_parts.note done_parts.start done_parts.input.items
    (λ place. SwitchAdds old new (Steps.GiveBack done_parts.note place a)) →
    OfPlace old job.note job.cipher job.bodies.items (λ place. SwitchAdds old new (Steps.GiveBack job.note place a))
of_done old new job done_parts a note start input of =
    subst (λ n. OfPlace old n job.cipher job.bodies.items (λ place. SwitchAdds old new (Steps.GiveBack n place a))) note
    (subst (λ s. OfPlace old done_parts.note s job.bodies.items
    (λ place. SwitchAdds old new (Steps.GiveBack done_parts.note place a))) start
    (subst (λ (b : Roomy (List ℕ)). OfPlace old done_parts.note done_parts.start b.items
    (λ place. SwitchAdds old new (Steps.GiveBack done_parts.note place a))) input of))

pub job_given_back : (old new : Started) (claim : ℕ) (job : JobParts) (done_parts : DoneParts)
    (jobs now : ℕ → Option JobParts) (a : BackAnswer) → old.start ≡ tape_start old.start.rules →
    jobs claim ≡ Some job → Without jobs now claim →
    done_parts.note ≡ job.note → done_parts.start ≡ job.cipher → done_parts.input ≡ job.bodies →
    OfPlace old done_parts.note done_parts.start done_parts.input.items
    (λ place. SwitchAdds old new (Steps.GiveBack done_parts.note place a)) →
    Makes old.start.rules (GiveBack claim) (record { switch = old; jobs = jobs }) (record { switch = new; jobs = now })
    (Some a) (λ h. option_map (give_back_of old.start.rules h) (kept_job h claim))
job_given_back old new claim job done_parts jobs now a is there put note start input of =
    let rules = old.start.rules in
    let found : (h : List Step) → PlayerStands rules (record { switch = old; jobs = jobs }) h →
    IsKeptJob rules h claim (kept_job h claim) job =
    λ h st. job_there rules h claim (jobs claim) (kept_job h claim) job (st.jobs.job claim) there in
    let home : (h : List Step) (st : PlayerStands rules (record { switch = old; jobs = jobs }) h) →
    ComesHome old new h now a (give_back_of rules h (found h st).note) (λ x. Steps.GiveBack (found h st).note None x) =
    λ h st. given-home old new h claim job (found h st).note jobs now a is st (found h st).stands put
    (subst (λ n. OfPlace old n job.cipher job.bodies.items (λ place. SwitchAdds old new (Steps.GiveBack n place a)))
    (found h st).stands.note_is (of_done old new job done_parts a note start input of)) in
    record {
      stands = λ h st.
          subst (λ k. PlayerStands rules (record { switch = new; jobs = now })
          (with_step (option_map (λ n. Steps.GiveBack n None (give_back_of rules h n)) k) h))
          (sym (found h st).is) (home h st).stands;
      right_is = λ h st. ap Some (home h st).is_right ∙ ap (option_map (give_back_of rules h)) (sym (found h st).is);
    }
