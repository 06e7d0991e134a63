-- The steps that claim, abandon and take add, for the relays of a switch.
use Rattle.std.proofs.Common.{◌≡◌, ℕ, ◌+◌, ◌==◌, ◌≤◌, ◌<◌, Bool, true, false, List, [], ◌∷◌, Option, Some, refl, sym, ap, subst, arith}
use Rattle.std.proofs.lemmas.Bool.Decides.{nat_tests}
use Rattle.std.specs.Prelude.{⊤}
use Rattle.cell_codec.specs.Cells.{IsWellFormed}
use Rattle.cell_codec.specs.declared.cell.Cell.{Cell}
use Rattle.circuit_model.specs.Events.{Event}
use Rattle.circuit_model.specs.Rules.{Rules}
use Rattle.tr_io.specs.declared.answers.BackAnswer.{BackAnswer}
use Rattle.tr_io.specs.declared.answers.TakeAnswer.{TakeAnswer}
use Rattle.tr_io.specs.declared.names.ChanNo.{ChanNo}
use Rattle.tr_io.specs.declared.names.CircNo.{CircNo}
use Rattle.tr_io.specs.declared.names.ClaimNote.{ClaimNote}
use Rattle.tr_io.specs.declared.step.Step.{Step}
use Rattle.tr_io.specs.declared.step.Step.TheVariants.{Claim, Abandon, Take}
use Rattle.switch_model.specs.History.Circuit.{is_live_circuit, events}
use Rattle.switch_model.specs.History.Legs.{at, circuits}
use Rattle.switch_model.specs.History.Past.{past}
use Rattle.switch_model.specs.Limits.{worker_limit}
use Rattle.switch_model.specs.Names.{Leg}
use Rattle.switch_model.specs.Start.{SwitchStart}
use Rattle.switch_model.proofs.Common.{self_eq}
use Rattle.switch_model.proofs.Others.{other_pasts}
use Rattle.switch_machine.specs.Adds.{Adds, AddsTo}
use Rattle.switch_machine.specs.Calls.Abandon.{abandon_result, abandon_state}
use Rattle.switch_machine.specs.Calls.Claim.{claim_result, claim_state}
use Rattle.switch_machine.specs.Calls.Take.{take_result, take_state}
use Rattle.switch_machine.specs.Machine.{leg_in, has_port}
use Rattle.switch_machine.specs.State.{State, slot_at}
use Rattle.switch_machine.proofs.Abandon.Law.{abandon_adds}
use Rattle.switch_machine.proofs.Claim.Law.{claim_adds}
use Rattle.switch_machine.proofs.Take.FoundLeg.{at-found}
use Rattle.switch_machine.proofs.Take.Frames.{events-first, events-passed}
use Rattle.switch_machine.proofs.Take.Law.{take_adds}
use Rattle.switch_core.specs.Opened.{ForgetsDown, TakeForgets}
use Rattle.switch_core.specs.Relays.{RelayAt, RelaysStand}
use Rattle.switch_core.specs.Picking.{first_leg_of}
use Rattle.switch_core.specs.Started.{Started, SwitchAdds, SwitchStandsForSome}
use Rattle.switch_core.specs.Taking.{TakeCase, IsOnLeg}
use Rattle.switch_core.specs.declared.relay.Relay.{Relay}
use Rattle.switch_core.proofs.Relays.{relays_torn}
use Rattle.switch_core.proofs.Whole.{started, whole_stays}

-- claim

pub claim_whole : (start : SwitchStart) (old new : State) (relays : List (Option Relay)) (worker : ℕ) (a : Option ClaimNote)
    → worker < worker_limit → new ≡ claim_state start.name old worker → a ≡ claim_result start.name old worker →
    SwitchAdds (started start old relays) (started start new relays) (Claim worker a)
unfolding SwitchAdds Adds
claim_whole start old new relays worker a known state answer =
    let adds : Adds start old new (Claim worker a) = claim_adds start old new worker a known state answer in
    record {
      start = refl;
      steps = adds.steps;
      stands = λ h st. record {
        state = adds.stands h st.state;
        relays = record { count_is = st.relays.count_is; relay = λ c. st.relays.relay c };
      };
    }

-- abandon

abandoned-live : (rules : Rules) (h : List Step) (note : ClaimNote) (place : Option ℕ) (reason : ℕ)
    → is_live_circuit rules (Abandon note place (BackAnswer.Down reason) ∷ h) note.circ.0 ≡ false
abandoned-live rules h note place reason = simp (self_eq note.circ.0)

abandoned-other : (rules : Rules) (h : List Step) (note : ClaimNote) (place : Option ℕ) (reason d : ℕ)
    → (d == note.circ.0) ≡ false → past rules (Abandon note place (BackAnswer.Down reason) ∷ h) d ≡ past rules h d
abandoned-other rules h note place reason d other =
    let apart : (note.circ.0 == d) ≡ false = grind (arith, nat_tests) in
    other_pasts rules h (Abandon note place (BackAnswer.Down reason)) d (rw apart refl)

abandoned-by : (rules : Rules) (h : List Step) (note : ClaimNote) (place : Option ℕ) (a : BackAnswer)
    (relays after : List (Option Relay)) → ForgetsDown a relays after note.circ.0 →
    RelaysStand rules relays (circuits h) (λ e. past rules h e)
    → RelaysStand rules after (circuits h) (λ e. past rules (Abandon note place a ∷ h) e)
abandoned-by rules h note place (BackAnswer.Down reason) relays after forgets old =
    relays_torn rules h (Abandon note place (BackAnswer.Down reason)) note.circ.0 relays after refl
    (abandoned-live rules h note place reason) (λ e other. abandoned-other rules h note place reason e other) forgets old
abandoned-by rules h note place BackAnswer.Settled relays after same old =
    rw same (record { count_is = old.count_is; relay = λ c. old.relay c })
abandoned-by rules h note place BackAnswer.Gone relays after same old =
    rw same (record { count_is = old.count_is; relay = λ c. old.relay c })
abandoned-by rules h note place (BackAnswer.Stranger why) relays after same old =
    rw same (record { count_is = old.count_is; relay = λ c. old.relay c })

pub abandon_whole : (start : SwitchStart) (old new : State) (relays after : List (Option Relay)) (note : ClaimNote)
    (place : Option ℕ) (a : BackAnswer)
    → ((rules : Rules) (ev : ℕ → List Event) → new ≡ abandon_state start.name rules ev old note place) →
    a ≡ abandon_result start.name old note place → ForgetsDown a relays after note.circ.0
    → SwitchAdds (started start old relays) (started start new after) (Abandon note place a)
unfolding SwitchAdds AddsTo
abandon_whole start old new relays after note place a state answer forgets = record {
  start = refl;
  steps = (abandon_adds start [] old new note place a (state start.rules (events start.rules [])) answer).steps;
  stands = λ h st. record {
    state = (abandon_adds start h old new note place a (state start.rules (events start.rules h)) answer).stands st.state;
    relays = abandoned-by start.rules h note place a relays after forgets st.relays;
  };
}

-- take

same-events : (rules : Rules) (relay : Option Relay) (live : Bool) (ev more : List Event) (sealed : ℕ) → more ≡ ev
    → RelayAt live relay rules ev sealed → RelayAt live relay rules more sealed
same-events rules relay live ev more sealed same old = subst (λ e. RelayAt live relay rules e sealed) (sym same) old

torn-live : (rules : Rules) (h : List Step) (chan : ChanNo) (cell : Cell) (circ : CircNo) (reason : ℕ)
    → is_live_circuit rules (Take chan cell (TakeAnswer.Down circ reason) ∷ h) circ.0 ≡ false
torn-live rules h chan cell circ reason = simp (self_eq circ.0)

torn-other : (rules : Rules) (h : List Step) (chan : ChanNo) (cell : Cell) (circ : CircNo) (reason d : ℕ)
    → at h chan.0 cell.circ ≡ Some (first_leg_of circ.0) → (d == circ.0) ≡ false →
    past rules (Take chan cell (TakeAnswer.Down circ reason) ∷ h) d ≡ past rules h d
torn-other rules h chan cell circ reason d here other =
    let apart : (circ.0 == d) ≡ false = grind (arith, nat_tests) in
    other_pasts rules h (Take chan cell (TakeAnswer.Down circ reason)) d (rw (here, apart) refl)

taken-by : (start : SwitchStart) (s : State) (h : List Step) (chan : ChanNo) (cell : Cell) (a : TakeAnswer)
    (relays after : List (Option Relay))
    → ((leg : Leg) → has_port chan.0 cell.circ (leg_in s leg) ≡ true → at h chan.0 cell.circ ≡ Some leg) →
    IsOnLeg a s chan.0 cell.circ → TakeForgets a relays after
    → RelaysStand start.rules relays (circuits h) (λ e. past start.rules h e) →
    RelaysStand start.rules after (circuits h) (λ e. past start.rules (Take chan cell a ∷ h) e)
taken-by start s h chan cell TakeAnswer.Queued relays after found on same old = rw same (record {
  count_is = old.count_is;
  relay = λ c. same-events start.rules (slot_at relays c) _ (events start.rules h c) _ _
      (events-first start.rules h chan.0 cell TakeAnswer.Queued on.0 c (found (first_leg_of on.0) on.1)) (old.relay c);
})
taken-by start s h chan cell (TakeAnswer.PassedOver why) relays after found on same old = rw same (record {
  count_is = old.count_is;
  relay = λ c. same-events start.rules (slot_at relays c) _ (events start.rules h c) _ _
      (events-passed start.rules h chan.0 cell why c) (old.relay c);
})
taken-by start s h chan cell (TakeAnswer.Down circ reason) relays after found on forgets old =
    relays_torn start.rules h (Take chan cell (TakeAnswer.Down circ reason)) circ.0 relays after refl
    (torn-live start.rules h chan cell circ reason)
    (λ e other. torn-other start.rules h chan cell circ reason e (found (first_leg_of circ.0) on) other) forgets old
taken-by start s h chan cell TakeAnswer.Memory relays after found on same old = absurd on

pub take_whole : (start : SwitchStart) (old new : State) (relays after : List (Option Relay)) (chan : ChanNo) (cell : Cell)
    (a : TakeAnswer) → IsWellFormed cell →
    ((rules : Rules) (ev : ℕ → List Event) → new ≡ take_state rules ev old chan.0 cell)
    → ((rules : Rules) (ev : ℕ → List Event) → a ≡ take_result rules ev old chan.0 cell) →
    IsOnLeg a old chan.0 cell.circ → TakeForgets a relays after
    → SwitchAdds (started start old relays) (started start new after) (Take chan cell a)
unfolding SwitchAdds AddsTo
take_whole start old new relays after chan cell a formed state answer on forgets = record {
  start = refl;
  steps = (take_adds start [] old new chan cell a formed (state start.rules (events start.rules []))
      (answer start.rules (events start.rules []))).steps;
  stands = λ h st. record {
    state = (take_adds start h old new chan cell a formed (state start.rules (events start.rules h))
        (answer start.rules (events start.rules h))).stands st.state;
    relays = taken-by start old h chan cell a relays after
        (λ leg has. at-found start old h st.state chan.0 cell.circ leg (leg_in old leg) refl has) on forgets st.relays;
  };
}

abbrev pub TakenState : State → State → ChanNo → Cell → Type 0
TakenState old new chan cell = (rules : Rules) (ev : ℕ → List Event) → new ≡ take_state rules ev old chan.0 cell

abbrev pub TakenAnswer : State → ChanNo → Cell → TakeAnswer → Type 0
TakenAnswer old chan cell a = (rules : Rules) (ev : ℕ → List Event) → a ≡ take_result rules ev old chan.0 cell

pub take_case : (start : SwitchStart) (old new : State) (relays after : List (Option Relay)) (chan : ChanNo) (cell : Cell)
    (a : TakeAnswer) → IsWellFormed cell → TakeCase a (new ≡ old) (TakenState old new chan cell) →
    TakeCase a ⊤ (TakenAnswer old chan cell a) → TakeCase a ⊤ (IsOnLeg a old chan.0 cell.circ) → TakeForgets a relays after →
    TakeCase a (started start new after ≡ started start old relays)
    (SwitchAdds (started start old relays) (started start new after) (Take chan cell a))
take_case start old new relays after chan cell TakeAnswer.Memory formed state answer on forgets = rw (state, forgets) refl
take_case start old new relays after chan cell TakeAnswer.Queued formed state answer on forgets =
    take_whole start old new relays after chan cell TakeAnswer.Queued formed state answer on forgets
take_case start old new relays after chan cell (TakeAnswer.PassedOver why) formed state answer on forgets =
    take_whole start old new relays after chan cell (TakeAnswer.PassedOver why) formed state answer on forgets
take_case start old new relays after chan cell (TakeAnswer.Down circ reason) formed state answer on forgets =
    take_whole start old new relays after chan cell (TakeAnswer.Down circ reason) formed state answer on forgets

pub take_goes_on : (old new : Started) (chan : ChanNo) (cell : Cell) (a : TakeAnswer)
    → TakeCase a (new ≡ old) (SwitchAdds old new (Take chan cell a)) → SwitchStandsForSome old → SwitchStandsForSome new
take_goes_on old new chan cell TakeAnswer.Memory same some = subst SwitchStandsForSome (sym same) some
take_goes_on old new chan cell TakeAnswer.Queued adds some = whole_stays old new (Take chan cell TakeAnswer.Queued) adds some
take_goes_on old new chan cell (TakeAnswer.PassedOver why) adds some =
    whole_stays old new (Take chan cell (TakeAnswer.PassedOver why)) adds some
take_goes_on old new chan cell (TakeAnswer.Down circ reason) adds some =
    whole_stays old new (Take chan cell (TakeAnswer.Down circ reason)) adds some

step-more : (old new : Started) (step : Step) → SwitchAdds old new step → new.state.steps ≤ old.state.steps + 1
unfolding SwitchAdds
step-more old new step adds = omega (arith, adds.steps)

pub take_steps : (old new : Started) (chan : ChanNo) (cell : Cell) (a : TakeAnswer)
    → TakeCase a (new ≡ old) (SwitchAdds old new (Take chan cell a)) → new.state.steps ≤ old.state.steps + 1
take_steps old new chan cell TakeAnswer.Memory same = omega (arith, ap (λ (s : Started). s.state.steps) same)
take_steps old new chan cell TakeAnswer.Queued adds = step-more old new (Take chan cell TakeAnswer.Queued) adds
take_steps old new chan cell (TakeAnswer.PassedOver why) adds =
    step-more old new (Take chan cell (TakeAnswer.PassedOver why)) adds
take_steps old new chan cell (TakeAnswer.Down circ reason) adds =
    step-more old new (Take chan cell (TakeAnswer.Down circ reason)) adds
