-- How the playing of a tape ends.
use Rattle.std.proofs.Common.{◌≡◌, inl, inr, ℕ, ◌-◌, List, [], length, Option, Some, refl, sym, ap, ◌∙◌, subst, arith}
use Rattle.circuit_model.specs.Rules.{Rules}
use Rattle.tr_io.specs.Faults.{Rose}
use Rattle.tr_io.specs.declared.status.Status.{Status}
use Rattle.tr_io.specs.declared.status.Status.TheVariants.{WriteFault, BadTape, Memory}
use Rattle.switch_machine.specs.Machine.{new_state}
use Rattle.tape.specs.declared.input.Ending.{Ending}
use Rattle.tape.specs.TapeRules.{rules_and, less_than_rules, no_rules, rules_ahead}
use Rattle.tape.specs.Steps.{tape_start, steps_behind, answers_behind, output, IsRecords}
use Rattle.tr_io.specs.Output.{IsWritten, IsPartWritten}
use Rattle.tape.specs.Runs.{cut_status, rules_status, SinkRun, IsFlushed, FirstRecords, EndsPlay}
use Rattle.tape.specs.Playing.{Stopped, Broken}
use Rattle.tr_io.proofs.OutputLaws.{starts_empty, whole_behind}
use Rattle.tape.proofs.Readings.{status_stops, only_reading, first_records}
use Rattle.tape.proofs.Turns.{new_stands, breaks}

-- How the playing ends, once the last answers are written or the sink failed.
pub ends_whole : (rules : Rules) (status : Status) (ending : Ending) (tape first answers last : List ℕ) (now : Option (List ℕ))
    (w : SinkRun) → rules_ahead tape ≡ rules_and rules first → Stopped rules status ending tape first answers w.contents now
    → last ≡ answers → IsWritten now last w.contents_after → IsFlushed w → EndsPlay status ending tape w
ends_whole rules status ending tape first answers last now w ahead stopped all written_last flushed =
    let written : IsWritten now answers w.contents_after = subst (λ xs. IsWritten now xs w.contents_after) all written_last in
    let out : IsWritten w.contents (output rules stopped.records) w.contents_after =
    whole_behind w.contents now w.contents_after stopped.gathered.handed.piece answers (output rules stopped.records)
    stopped.gathered.handed.written written stopped.gathered.handed.whole in
    let read : FirstRecords rules tape first stopped.rest stopped.records =
    first_records rules tape first stopped.rest stopped.records ahead stopped.gathered.read stopped.behind in
    elim stopped.cause [
      | inl at ↦ inl (record {
        rules = rules;
        first = first;
        records = stopped.records;
        rest = stopped.rest;
        read = read;
        ends = at;
        only = only_reading first stopped.records stopped.rest stopped.gathered.read
            (status_stops ending (length tape - length stopped.rest) stopped.rest status at);
        written = out;
        flushed = flushed;
      })
      | inr memory ↦ inr
          (inr (inl (record {
            is = memory;
            rules = rules;
            first = first;
            records = stopped.records;
            rest = stopped.rest;
            read = read;
            written = out;
          })))
    ]

pub ends_cut : (rules : Rules) (status : Status) (ending : Ending) (tape first : List ℕ) (w : SinkRun)
    → rules_ahead tape ≡ rules_and rules first → status ≡ WriteFault
    → Broken rules first w.contents w.contents_after w.faults w.faults_after → EndsPlay status ending tape w
ends_cut rules status ending tape first w ahead is broken = inr (inl (record {
  is = is;
  cause = broken.cause;
  rules = rules;
  first = first;
  records = broken.records;
  rest = broken.rest;
  read = first_records rules tape first broken.rest broken.records ahead broken.read broken.behind;
  written = broken.written;
}))

pub ends_broken : (rules : Rules) (status : Status) (ending : Ending) (tape first answers last : List ℕ) (now : Option (List ℕ))
    (w : SinkRun) → rules_ahead tape ≡ rules_and rules first → Stopped rules status ending tape first answers w.contents now
    → last ≡ answers → IsPartWritten now last w.contents_after → Rose w.faults w.faults_after → EndsPlay WriteFault ending tape w
ends_broken rules status ending tape first answers last now w ahead stopped all part rose =
    ends_cut rules WriteFault ending tape first w ahead refl
    (breaks rules first stopped.rest stopped.records answers w.contents now w.contents_after w.faults w.faults_after
    stopped.behind stopped.gathered
    (subst (λ xs. IsPartWritten now xs w.contents_after) all part) rose)

-- Memory was wanting before the first record.
pub ends_early : (rules : Rules) (ending : Ending) (tape first : List ℕ) (w : SinkRun) → rules_ahead tape ≡ rules_and rules first
    → w.contents_after ≡ w.contents → EndsPlay Memory ending tape w
unfolding IsRecords answers_behind steps_behind
ends_early rules ending tape first w ahead same = inr (inr (inl (record {
  is = refl;
  rules = rules;
  first = first;
  records = [];
  rest = first;
  read = first_records rules tape first first [] ahead refl
      (record { switch = _; start = refl; stands = new_stands (tape_start rules) new_state [] refl refl; own = tt });
  written = subst (λ o. IsWritten w.contents [] o) (sym same) (starts_empty w.contents);
})))

-- The tape's rules are cut, or are none.
pub ends_cut_short : (status : Status) (ending : Ending) (tape : List ℕ) (w : SinkRun) → less_than_rules ≡ rules_ahead tape
    → status ≡ cut_status ending 0 tape → w.contents_after ≡ w.contents → EndsPlay status ending tape w
ends_cut_short status ending tape w front is same =
    inr (inr (inr (record { ends = ap (rules_status ending tape) (sym front) ∙ ap Some (sym is); contents = same })))

pub ends_ruleless : (ending : Ending) (tape : List ℕ) (w : SinkRun) → no_rules ≡ rules_ahead tape → w.contents_after ≡ w.contents
    → EndsPlay (BadTape 0) ending tape w
ends_ruleless ending tape w front same =
    inr (inr (inr (record { ends = ap (rules_status ending tape) (sym front); contents = same })))
