-- The records of a tape as steps of a switch, and the answers that are written.
use Rattle.std.specs.Prelude.{◌≡◌, ℕ, List, [], ◌∷◌, ◌++◌, Option, Some, None, option_map}
use Rattle.circuit_model.specs.Rules.{Rules}
use Rattle.tr_io.specs.declared.answers.BackAnswer.{BackAnswer}
use Rattle.tr_io.specs.declared.names.ClaimNote.{ClaimNote}
use Rattle.tr_io.specs.declared.step.Step.{Step}
use Rattle.tr_io.specs.declared.step.Step.TheVariants as Steps
use Rattle.switch_model.specs.Limits.{circuit_limit}
use Rattle.switch_model.specs.Start.{SwitchStart}
use Rattle.switch_model.specs.Answers.ChannelUp.{channel_up_answer}
use Rattle.switch_model.specs.Answers.OpenCircuit.{open_answer}
use Rattle.switch_model.specs.Answers.Take.{take_answer}
use Rattle.switch_model.specs.Answers.Claim.{claim_answer}
use Rattle.switch_model.specs.Answers.GiveBack.{give_back_answer}
use Rattle.switch_model.specs.Answers.Abandon.{abandon_answer}
use Rattle.switch_model.specs.Answers.NextCell.{next_cell_answer}
use Rattle.switch_model.specs.Answers.DialOrder.{dial_order_answer}
use Rattle.switch_model.specs.Answers.TearDown.{tear_down_answer}
use Rattle.tape.specs.declared.record.Record.{Record}
use Rattle.tape.specs.declared.record.Record.TheVariants.{ChannelUp, OpenCircuit, Take, Claim, GiveBack, Abandon, NextCell, DialOrder, TearDown}
use Rattle.tape.specs.Fronts.{record_and}
use Rattle.tape.specs.Records.{front_of}
use Rattle.tape.specs.KeptJobs.{kept_job}
use Rattle.tape.specs.Kinds.ChannelUp.{up_bytes}
use Rattle.tape.specs.Kinds.OpenCircuit.{opening_for, open_bytes, opening_kind}
use Rattle.tape.specs.Kinds.Take.{take_bytes}
use Rattle.tape.specs.Kinds.Claim.{claim_bytes}
use Rattle.tape.specs.Kinds.Return.{return_bytes}
use Rattle.tape.specs.Kinds.NextCell.{next_bytes}
use Rattle.tape.specs.Kinds.DialOrder.{dial_order_bytes}
use Rattle.tape.specs.Kinds.TearDown.{tear_down_bytes}

-- The switch that a tape is played on: its name is 0.
abbrev pub tape_start : Rules → SwitchStart
tape_start rules = record { name = 0; rules = rules; circuits = circuit_limit }

-- A job that the tape keeps comes back as it was given out, so that no place of it differs: worked,
abbrev pub give_back_of : Rules → List Step → ClaimNote → BackAnswer
give_back_of rules h note = give_back_answer (tape_start rules) h note None

-- or undone.
abbrev pub abandon_of : Rules → List Step → ClaimNote → BackAnswer
abandon_of rules h note = abandon_answer (tape_start rules) h note None

-- The step that a record makes behind these steps, newest first: its call with the right answer. The return of
-- a job that the tape doesn't keep makes none.
abbrev pub step_of : Rules → List Step → Record → Option Step
step_of rules h (ChannelUp slot side) = Some (Steps.ChannelUp slot side (channel_up_answer h))
step_of rules h (OpenCircuit chan y pad request) =
    Some (Steps.OpenCircuit chan request.id (opening_for request y pad).reply (opening_for request y pad).keys
    (opening_for request y pad).pad
    (open_answer (tape_start rules) h chan.0 request.id (opening_for request y pad).keys))
step_of rules h (Take chan cell) = Some (Steps.Take chan cell (take_answer rules h chan.0 cell))
step_of rules h (Claim worker) = Some (Steps.Claim worker (claim_answer (tape_start rules) h worker))
step_of rules h (GiveBack claim) = option_map (λ note. Steps.GiveBack note None (give_back_of rules h note)) (kept_job h claim)
step_of rules h (Abandon claim) = option_map (λ note. Steps.Abandon note None (abandon_of rules h note)) (kept_job h claim)
step_of rules h (NextCell chan tick) = Some (Steps.NextCell chan tick (next_cell_answer rules h chan.0 tick))
step_of rules h DialOrder = Some (Steps.DialOrder (dial_order_answer rules h))
step_of rules h (TearDown circ reason) = Some (Steps.TearDown circ reason (tear_down_answer rules h circ.0 reason))

-- How that answer is written; 04 to the return of a job that the tape doesn't keep.
abbrev pub answer_of : Rules → List Step → Record → List ℕ
answer_of rules h (ChannelUp slot side) = up_bytes (channel_up_answer h)
answer_of rules h (OpenCircuit chan y pad request) =
    open_bytes (opening_kind pad) (open_answer (tape_start rules) h chan.0 request.id (opening_for request y pad).keys)
answer_of rules h (Take chan cell) = take_bytes (take_answer rules h chan.0 cell)
answer_of rules h (Claim worker) = claim_bytes (claim_answer (tape_start rules) h worker)
answer_of rules h (GiveBack claim) = return_bytes 6 (option_map (give_back_of rules h) (kept_job h claim))
answer_of rules h (Abandon claim) = return_bytes 7 (option_map (abandon_of rules h) (kept_job h claim))
answer_of rules h (NextCell chan tick) = next_bytes (next_cell_answer rules h chan.0 tick)
answer_of rules h DialOrder = dial_order_bytes (dial_order_answer rules h)
answer_of rules h (TearDown circ reason) = tear_down_bytes (tear_down_answer rules h circ.0 reason)

-- These steps with one more, if there is one.
abbrev pub with_step : Option Step → List Step → List Step
with_step (Some step) h = step ∷ h
with_step None h = h

-- The steps of records behind these steps, newest first.
unfoldable pub steps_behind : Rules → List Step → List Record → List Step
steps_behind rules h [] = h
steps_behind rules h (r ∷ more) = steps_behind rules (with_step (step_of rules h r) h) more

-- Their answers, one after another.
unfoldable pub answers_behind : Rules → List Step → List Record → List ℕ
answers_behind rules h [] = []
answers_behind rules h (r ∷ more) = answer_of rules h r ++ answers_behind rules (with_step (step_of rules h r) h) more

-- The steps of a tape's records, newest first, and all of its output.
abbrev pub steps_of : Rules → List Record → List Step
steps_of rules records = steps_behind rules [] records

abbrev pub output : Rules → List Record → List ℕ
output rules records = answers_behind rules [] records

-- The bytes are these records, one after another, and then the rest.
unfoldable pub IsRecords : List ℕ → List Record → List ℕ → Type 0
IsRecords bytes [] rest = bytes ≡ rest
IsRecords bytes (r ∷ more) rest =
    (behind : List ℕ) × ((front_of bytes ≡ record_and r behind) × IsRecords behind more rest)
