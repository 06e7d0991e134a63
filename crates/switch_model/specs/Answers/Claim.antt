-- The answer to `claim`.
use Rattle.std.specs.Prelude.{ℕ, List, Option, option_map}
use Rattle.tr_io.specs.declared.names.ClaimNote.{ClaimNote}
use Rattle.tr_io.specs.declared.step.Step.{Step}
use Rattle.switch_model.specs.Start.{SwitchStart}
use Rattle.switch_model.specs.Names.{Way, circ_no}
use Rattle.switch_model.specs.Waiting.Claims.{claims, claimed_count, next_way, claim_count}

-- The note of a claim of this direction.
abbrev pub note_for : SwitchStart → List Step → ℕ → Way → ClaimNote
note_for start h worker way = record {
  switch = start.name;
  claim = claims h;
  worker = worker;
  circ = circ_no way.circ;
  dir = way.dir;
  first = claimed_count h way;
  count = claim_count start.rules h way;
}

-- A worker's claim: the note of its job, or None where no direction is ready.
abbrev pub claim_answer : SwitchStart → List Step → ℕ → Option ClaimNote
claim_answer start h worker = option_map (note_for start h worker) (next_way start.rules h)
