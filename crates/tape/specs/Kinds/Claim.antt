-- Kind 05, `claim`: its fields, how they are read, and its answer.
use Rattle.std.specs.Prelude.{◌<◌, ℕ, ◌++◌, List, [], ◌∷◌, length, Option, Some, None, nat_lt, if◌then◌else◌, drop}
use Rattle.std.specs.Int.{w32, w64, from_be_bytes, to_be_bytes}
use Rattle.switch_model.specs.Limits.{worker_limit}
use Rattle.tr_io.specs.declared.names.ClaimNote.{ClaimNote}
use Rattle.tr_io.specs.declared.names.Dir.{Dir}
use Rattle.tr_io.specs.declared.names.Dir.TheVariants.{Forth, Back}
use Rattle.tape.specs.declared.record.Record.TheVariants.{Claim}
use Rattle.tape.specs.Fronts.{FrontOf, record_and, less, no_record, field}

-- Worker (4 bytes).
abbrev pub claim_spelling : ℕ → List ℕ
claim_spelling worker = 5 ∷ to_be_bytes w32 worker

abbrev pub ClaimFits : ℕ → Type 0
ClaimFits worker = worker < worker_limit

unfoldable pub claim_front : List ℕ → FrontOf
claim_front fields =
    if nat_lt (length fields) 4 then less
    else (if nat_lt (from_be_bytes w32 (field 0 4 fields)) worker_limit
    then record_and (Claim (from_be_bytes w32 (field 0 4 fields))) (drop 4 fields)
    else no_record)

-- The direction: 00 forth, 01 back.
abbrev pub dir_byte : Dir → ℕ
dir_byte Forth = 0
dir_byte Back = 1

-- A job's note: claim number (8 bytes), circuit (8), direction (1), the number of the first body (8), how many (4).
abbrev pub note_bytes : ClaimNote → List ℕ
note_bytes note =
    to_be_bytes w64 note.claim
    ++ (to_be_bytes w64 note.circ.0 ++ (dir_byte note.dir ∷ (to_be_bytes w64 note.first ++ to_be_bytes w32 note.count)))

-- 00 and the note of the job, or 01 where no direction is ready.
abbrev pub claim_bytes : Option ClaimNote → List ℕ
claim_bytes (Some note) = 5 ∷ 0 ∷ note_bytes note
claim_bytes None = 5 ∷ 1 ∷ []
