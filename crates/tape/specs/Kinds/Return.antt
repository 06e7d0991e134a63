-- Kinds 06, `give_back`, and 07, `abandon`: their fields, how they are read, and their answer.
use Rattle.std.specs.Prelude.{◌<◌, ℕ, ◌^◌, List, [], ◌∷◌, length, Option, Some, None, nat_lt, if◌then◌else◌, drop}
use Rattle.std.specs.Int.{w64, from_be_bytes, to_be_bytes}
use Rattle.tr_io.specs.declared.answers.BackAnswer.{BackAnswer}
use Rattle.tape.specs.declared.record.Record.{Record}
use Rattle.tape.specs.Fronts.{FrontOf, record_and, less, field}
use Rattle.tape.specs.Kinds.Back.{back_bytes}

-- The number of the claim (8 bytes).
abbrev pub return_spelling : ℕ → ℕ → List ℕ
return_spelling kind claim = kind ∷ to_be_bytes w64 claim

abbrev pub ReturnFits : ℕ → Type 0
ReturnFits claim = claim < 2 ^ 64

-- By the record that names a claim of this number.
unfoldable pub return_front : (ℕ → Record) → List ℕ → FrontOf
return_front of fields =
    if nat_lt (length fields) 8 then less
    else record_and (of (from_be_bytes w64 (field 0 8 fields))) (drop 8 fields)

-- The answer of the switch, or 04 where the tape keeps no job of that claim.
abbrev pub return_bytes : ℕ → Option BackAnswer → List ℕ
return_bytes kind (Some answer) = back_bytes kind answer
return_bytes kind None = kind ∷ 4 ∷ []
