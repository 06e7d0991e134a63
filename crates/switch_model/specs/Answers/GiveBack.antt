-- The answer to `give_back`, and the checks of every return. The first line that fits holds.
use Rattle.std.specs.Prelude.{ℕ, ◌==◌, nat_lt, not, List, length, Bool, false, if◌then◌else◌, Option, Some, None}
use Rattle.circuit_model.specs.Rules.{Rules}
use Rattle.tr_io.specs.declared.answers.BackAnswer.{BackAnswer}
use Rattle.tr_io.specs.declared.answers.BackAnswer.TheVariants.{Settled, Down, Gone, Stranger}
use Rattle.tr_io.specs.declared.answers.Difference.TheVariants.{Note, Content}
use Rattle.tr_io.specs.declared.names.ClaimNote.{ClaimNote}
use Rattle.tr_io.specs.declared.names.Dir.{Dir}
use Rattle.tr_io.specs.declared.names.Dir.TheVariants.{Forth, Back}
use Rattle.tr_io.specs.declared.step.Step.{Step}
use Rattle.switch_model.specs.Start.{SwitchStart}
use Rattle.switch_model.specs.Names.{way_of, same_note}
use Rattle.switch_model.specs.History.Legs.{circuits}
use Rattle.switch_model.specs.History.Taken.{claimed_cells}
use Rattle.switch_model.specs.History.Circuit.{is_live_circuit, sent, events}
use Rattle.switch_model.specs.History.Returns.{settling_reason}
use Rattle.switch_model.specs.Waiting.Claims.{claim_out}

-- Whether a note is the one that is kept.
abbrev pub is_note : ClaimNote → Option ClaimNote → Bool
is_note note (Some claim_out) = same_note claim_out note
is_note note None = false

-- A return with this note, whose start state or bodies differ at this place, if they do; `answer` is
-- given to one that is what the switch gave out.
abbrev pub returned : ClaimNote → Option ℕ → BackAnswer → BackAnswer
returned note (Some place) answer = Stranger (Content note place)
returned note None answer = answer

-- The checks of a return; `answer` is given to one that passes them.
abbrev pub return_answer : SwitchStart → List Step → ClaimNote → Option ℕ → BackAnswer → BackAnswer
return_answer start h note place answer =
    if not (note.switch == start.name) then Stranger (Note None note)
    else if not (nat_lt note.circ.0 (circuits h)) then Stranger (Note None note)
    else if not (is_live_circuit start.rules h note.circ.0) then Gone
    else if not (is_note note (claim_out h (way_of note))) then Stranger (Note (claim_out h (way_of note)) note)
    else returned note place answer

-- The answer by the reason with which the circuit closes, if it does.
abbrev pub done_by : Option ℕ → BackAnswer
done_by None = Settled
done_by (Some reason) = Down reason

-- Sealed bodies settle; opened bodies settle one after another.
abbrev pub done : Rules → List Step → ClaimNote → Dir → BackAnswer
done rules h note Back = Settled
done rules h note Forth =
    done_by (settling_reason rules (length (sent rules h note.circ.0 0)) (events rules h note.circ.0) (claimed_cells h note))

-- A job that comes back done.
abbrev pub give_back_answer : SwitchStart → List Step → ClaimNote → Option ℕ → BackAnswer
give_back_answer start h note place = return_answer start h note place (done start.rules h note note.dir)
