-- A body that closes ends its claim's return with its reason, and the circuit with it.
use Rattle.std.proofs.Common.{◌≡◌, ℕ, true, false, List, [], ◌∷◌, ◌++◌, length, Option, Some, refl, ◌∙◌, ap}
use Rattle.circuit_model.specs.Events.{CircuitCell, Event}
use Rattle.circuit_model.specs.Log.{Effects, closing}
use Rattle.circuit_model.specs.Rules.{Rules}
use Rattle.circuit_model.specs.Words.{effects}
use Rattle.tr_io.specs.declared.answers.BackAnswer.{BackAnswer}
use Rattle.tr_io.specs.declared.answers.BackAnswer.TheVariants.{Down}
use Rattle.tr_io.specs.declared.names.ClaimNote.{ClaimNote}
use Rattle.tr_io.specs.declared.names.Dir.TheVariants.{Forth}
use Rattle.tr_io.specs.declared.step.Step.{Step}
use Rattle.tr_io.specs.declared.step.Step.TheVariants.{GiveBack}
use Rattle.switch_model.specs.Start.{SwitchStart}
use Rattle.switch_model.specs.History.Taken.{claimed_cells}
use Rattle.switch_model.specs.History.Circuit.{is_live_circuit, sent, events, is_accepted_return}
use Rattle.circuit_model.specs.Batches.{forward_of, events_behind}
use Rattle.switch_model.specs.History.Returns.{settling_reason, AllGo}
use Rattle.switch_model.specs.Answers.GiveBack.{done, done_by}
use Rattle.switch_model.specs.Legal.{IsLegal}
use Rattle.switch_model.proofs.Common.{self_eq}
use Rattle.switch_model.proofs.Returning.{passed}

pub reason-behind : (rules : Rules) (left reason : ℕ) (ev : List Event) (before : List CircuitCell) (closer : CircuitCell)
    (rest : List CircuitCell) → AllGo rules left ev before →
    effects rules (events_behind ev before) (forward_of closer) ≡ closing reason
    → settling_reason rules left ev (before ++ closer ∷ rest) ≡ Some reason
reason-behind rules left reason ev [] closer rest go closes = rw (closes, ap (λ (e : Effects). e.close) closes) refl
reason-behind rules left reason ev (cell ∷ before) closer rest go closes =
    rw go.0 (reason-behind rules left reason (forward_of cell ∷ ev) before closer rest go.1 closes)

pub closing_return_is_down : (start : SwitchStart) (h : List Step) (note : ClaimNote) (place : Option ℕ) (a : BackAnswer)
    (reason : ℕ) (before : List CircuitCell) (closer : CircuitCell) (rest : List CircuitCell) →
    IsLegal start (GiveBack note place a ∷ h) → is_accepted_return a ≡ true → note.dir ≡ Forth
    → claimed_cells h note ≡ before ++ closer ∷ rest →
    AllGo start.rules (length (sent start.rules h note.circ.0 0)) (events start.rules h note.circ.0) before →
    effects start.rules (events_behind (events start.rules h note.circ.0) before) (forward_of closer) ≡ closing reason
    → a ≡ Down reason
closing_return_is_down start h note place a reason before closer rest legal accepted forth claimed go closes =
    let said = legal.0.1 in
    let is = said ∙ (passed start h note place (done start.rules h note note.dir) (rw said at accepted)).answer_is in
    is ∙ rw (forth, claimed)
    (ap done_by (reason-behind start.rules _ reason (events start.rules h note.circ.0) before closer rest go closes))

pub down_ends_circuit : (rules : Rules) (h : List Step) (note : ClaimNote) (place : Option ℕ) (reason : ℕ)
    → is_live_circuit rules (GiveBack note place (Down reason) ∷ h) note.circ.0 ≡ false
down_ends_circuit rules h note place reason = rw (self_eq note.circ.0) refl
