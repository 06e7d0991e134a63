-- Kind 0e, `tear_down`: its fields, how they are read, and its answer.
use Rattle.std.specs.Prelude.{◌<◌, ℕ, ◌^◌, ◌++◌, List, [], ◌∷◌, length, nat_lt, if◌then◌else◌, drop, slice_index}
use Rattle.std.specs.Int.{w64, from_be_bytes, to_be_bytes}
use Rattle.tr_io.specs.declared.answers.BackAnswer.{BackAnswer}
use Rattle.tape.specs.declared.record.Record.TheVariants.{TearDown}
use Rattle.tape.specs.Fronts.{FrontOf, record_and, less, field}
use Rattle.tape.specs.Kinds.Back.{back_bytes}

-- Circuit (8 bytes), reason (1).
abbrev pub tear_down_spelling : ℕ → ℕ → List ℕ
tear_down_spelling circ reason = 14 ∷ (to_be_bytes w64 circ ++ reason ∷ [])

abbrev pub TearDownFits : ℕ → ℕ → Type 0
TearDownFits circ reason = (circ < 2 ^ 64) × (reason < 2 ^ 8)

unfoldable pub tear_down_front : List ℕ → FrontOf
tear_down_front fields =
    if nat_lt (length fields) 9 then less
    else record_and (TearDown (record { 0 = from_be_bytes w64 (field 0 8 fields) }) (slice_index fields 8)) (drop 9 fields)

-- 01 and the reason (1 byte), or 02 where the circuit is gone.
abbrev pub tear_down_bytes : BackAnswer → List ℕ
tear_down_bytes a = back_bytes 14 a
