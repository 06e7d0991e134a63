-- A return that is accepted: what its checks say, and which of its cells settle.
use Rattle.std.proofs.Common.{◌≡◌, ℕ, ◌==◌, Bool, true, false, not, nat_lt, if◌then◌else◌, List, [], ◌∷◌, ◌++◌, Option, Some, None, refl, sym, ◌∙◌, ap, append_assoc}
use Rattle.std.proofs.lemmas.List.{append-nil}
use Rattle.circuit_model.specs.Events.{CircuitCell, Event}
use Rattle.circuit_model.specs.Rules.{Rules}
use Rattle.circuit_model.specs.Words.{log}
use Rattle.tr_io.specs.declared.answers.BackAnswer.{BackAnswer}
use Rattle.tr_io.specs.declared.answers.BackAnswer.TheVariants.{Gone, Stranger}
use Rattle.tr_io.specs.declared.answers.Difference.{Difference}
use Rattle.tr_io.specs.declared.answers.Difference.TheVariants.{Note}
use Rattle.tr_io.specs.declared.names.ClaimNote.{ClaimNote}
use Rattle.tr_io.specs.declared.step.Step.{Step}
use Rattle.switch_model.specs.Start.{SwitchStart}
use Rattle.switch_model.specs.Names.{way_of}
use Rattle.switch_model.specs.History.Legs.{circuits}
use Rattle.switch_model.specs.History.Circuit.{is_live_circuit, is_accepted_return}
use Rattle.switch_model.specs.Waiting.Claims.{claim_out}
use Rattle.switch_model.specs.Answers.GiveBack.{is_note, returned, return_answer}
use Rattle.circuit_model.specs.Batches.{forward_of, events_behind}
use Rattle.switch_model.specs.History.Returns.{Closing, Goes, Closes, Full, closing_at, settled, settling_reason}
use Rattle.switch_model.specs.History.Relayed.{settled_forth}

-- it passed them all
pub record Passed (is_live is_kept : Bool) (given answer : BackAnswer) : Type 0 where
  pub live : is_live ≡ true
  pub note : is_kept ≡ true
  pub answer_is : given ≡ answer

passed-by : (name inside live kept_one : Bool) (note : ClaimNote) (a b : Difference) (place : Option ℕ) (answer : BackAnswer) →
    is_accepted_return (if not name then Stranger a else if not inside then Stranger a else if not live then Gone
    else if not kept_one then Stranger b else returned note place answer) ≡ true →
    Passed live kept_one (if not name then Stranger a else if not inside then Stranger a else if not live then Gone
    else if not kept_one then Stranger b else returned note place answer) answer
passed-by false inside live kept_one note a b place answer accepted = absurd cc
passed-by true false live kept_one note a b place answer accepted = absurd cc
passed-by true true false kept_one note a b place answer accepted = absurd cc
passed-by true true true false note a b place answer accepted = absurd cc
passed-by true true true true note a b (Some n) answer accepted = absurd cc
passed-by true true true true note a b None answer accepted = record { live = refl; note = refl; answer_is = refl }

pub passed : (start : SwitchStart) (h : List Step) (note : ClaimNote) (place : Option ℕ) (answer : BackAnswer)
    → is_accepted_return (return_answer start h note place answer) ≡ true →
    Passed (is_live_circuit start.rules h note.circ.0) (is_note note (claim_out h (way_of note)))
    (return_answer start h note place answer) answer
passed start h note place answer accepted =
    passed-by (note.switch == start.name) (nat_lt note.circ.0 (circuits h)) (is_live_circuit start.rules h note.circ.0)
    (is_note note (claim_out h (way_of note))) note (Note None note) (Note (claim_out h (way_of note)) note) place answer
    accepted

-- the first of the cells settle, and all where none closes
pub record Settles (rules : Rules) (left : ℕ) (ev : List Event) (cells : List CircuitCell) : Type 0 where
  pub some : List CircuitCell
  pub later : List CircuitCell
  pub cells_are : some ++ later ≡ cells
  pub events_are : settled rules left ev cells ≡ events_behind ev some
  pub all : settling_reason rules left ev cells ≡ None → later ≡ []

settles-by : (rules : Rules) (left : ℕ) (ev : List Event) (cell : CircuitCell) (cells : List CircuitCell) (closing : Closing)
    → closing_at rules left ev cell ≡ closing →
    Settles rules left (forward_of cell ∷ ev) cells → Settles rules left ev (cell ∷ cells)
settles-by rules left ev cell cells Goes is behind = record {
  some = cell ∷ behind.some;
  later = behind.later;
  cells_are = ap (λ l. cell ∷ l) behind.cells_are;
  events_are = rw is behind.events_are;
  all = λ none. behind.all (rw is at none);
}
settles-by rules left ev cell cells (Closes reason) is behind = record {
  some = cell ∷ [];
  later = cells;
  cells_are = refl;
  events_are = rw is refl;
  all = λ none. let no : Some reason ≡ None = rw is at none in absurd cc;
}
settles-by rules left ev cell cells Full is behind = record {
  some = [];
  later = cell ∷ cells;
  cells_are = refl;
  events_are = rw is refl;
  all = λ none. let no = rw is at none in absurd cc;
}

pub settles : (rules : Rules) (left : ℕ) (ev : List Event) (cells : List CircuitCell) → Settles rules left ev cells
settles rules left ev [] = record { some = []; later = []; cells_are = refl; events_are = refl; all = λ none. refl }
settles rules left ev (cell ∷ cells) =
    settles-by rules left ev cell cells (closing_at rules left ev cell) refl (settles rules left (forward_of cell ∷ ev) cells)

-- cells behind some events are the newest forward cells
pub forth-behind : (rules : Rules) (ev : List Event) (cells : List CircuitCell)
    → settled_forth (log rules (events_behind ev cells)) ≡ settled_forth (log rules ev) ++ cells
forth-behind rules ev [] = sym (append-nil (settled_forth (log rules ev)))
forth-behind rules ev (cell ∷ cells) =
    forth-behind rules (forward_of cell ∷ ev) cells ∙ append_assoc (settled_forth (log rules ev)) (cell ∷ []) cells
