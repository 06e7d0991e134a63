-- Records of a tape, one after another.
use Rattle.std.proofs.Common.{◌≡◌, ℕ, List, [], ◌∷◌, ◌++◌, refl, sym, ap, ◌∙◌, append_assoc}
use Rattle.std.proofs.lemmas.List.{append-nil}
use Rattle.circuit_model.specs.Rules.{Rules}
use Rattle.tr_io.specs.declared.step.Step.{Step}
use Rattle.tape.specs.declared.record.Record.{Record}
use Rattle.tape.specs.Fronts.{record_and}
use Rattle.tape.specs.Records.{front_of}
use Rattle.tape.specs.Steps.{step_of, answer_of, with_step, steps_behind, answers_behind, steps_of, output, IsRecords}

-- One record more was read.
pub records_more : (bytes : List ℕ) (records : List Record) (rest later_bytes : List ℕ) (r : Record)
    → IsRecords bytes records rest → front_of rest ≡ record_and r later_bytes → IsRecords bytes (records ++ r ∷ []) later_bytes
unfolding IsRecords
records_more bytes [] rest later_bytes r read front = (later_bytes, (ap front_of read ∙ front, refl))
records_more bytes (first ∷ more) rest later_bytes r read front =
    (read.0, (read.1.0, records_more read.0 more rest later_bytes r read.1.1 front))

-- It makes one step more, if it makes one, and its answer is behind the others.
pub steps_more : (rules : Rules) (h : List Step) (records : List Record) (r : Record) →
    steps_behind rules h (records ++ r ∷ []) ≡ with_step (step_of rules (steps_behind rules h records) r)
    (steps_behind rules h records)
unfolding steps_behind
steps_more rules h [] r = refl
steps_more rules h (first ∷ more) r = steps_more rules (with_step (step_of rules h first) h) more r

pub answers_more : (rules : Rules) (h : List Step) (records : List Record) (r : Record)
    → answers_behind rules h (records ++ r ∷ []) ≡ answers_behind rules h records
    ++ answer_of rules (steps_behind rules h records) r
unfolding steps_behind answers_behind
answers_more rules h [] r = append-nil (answer_of rules h r)
answers_more rules h (first ∷ more) r =
    ap (λ xs. answer_of rules h first ++ xs) (answers_more rules (with_step (step_of rules h first) h) more r)
    ∙ sym (append_assoc (answer_of rules h first) (answers_behind rules (with_step (step_of rules h first) h) more)
    (answer_of rules (steps_behind rules (with_step (step_of rules h first) h) more) r))

-- The answers of some records and of those behind them.
answers_append : (rules : Rules) (h : List Step) (records more : List Record)
    → answers_behind rules h (records ++ more) ≡ answers_behind rules h records
    ++ answers_behind rules (steps_behind rules h records) more
unfolding steps_behind answers_behind
answers_append rules h [] more = refl
answers_append rules h (r ∷ records) more =
    ap (λ xs. answer_of rules h r ++ xs) (answers_append rules (with_step (step_of rules h r) h) records more)
    ∙ sym (append_assoc (answer_of rules h r) (answers_behind rules (with_step (step_of rules h r) h) records)
    (answers_behind rules (steps_behind rules (with_step (step_of rules h r) h) records) more))

pub front_of_output : (rules : Rules) (records more : List Record)
    → (later_bytes : List ℕ) × (output rules (records ++ more) ≡ output rules records ++ later_bytes)
front_of_output rules records more = (answers_behind rules (steps_of rules records) more, answers_append rules [] records more)
