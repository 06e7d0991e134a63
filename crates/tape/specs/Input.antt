-- What the reading of a tape says of its source.
use Rattle.std.specs.Prelude.{◌≡◌, ℕ, ◌+◌, ◌^◌, List, [], ◌++◌, length, take, Option, Some, None}
use Rattle.tr_io.specs.Faults.{Rose}
use Rattle.tape.specs.declared.input.Ending.{Ending}
use Rattle.tape.specs.declared.input.Ending.TheVariants.{End, Fault, Limit}

-- How many bytes a tape may have.
abbrev pub tape_limit : ℕ
tape_limit = 2 ^ 28

-- The reading ends at a fault only where the source's count of faults rose.
abbrev pub EndCause : Ending → ℕ → ℕ → Type 0
EndCause End before now = Unit {0}
EndCause Fault before now = Rose before now
EndCause Limit before now = Unit {0}

-- Where a source tells its bytes: these were read, and stood in front of those that are left.
abbrev pub IsRead : Option (List ℕ) → List ℕ → Option (List ℕ) → Type 0
IsRead None bytes after = after ≡ None
IsRead (Some told) bytes None = ⊥
IsRead (Some told) bytes (Some left) = told ≡ bytes ++ left

-- Where a source tells its bytes, none are left.
abbrev pub NothingLeft : Option (List ℕ) → Type 0
NothingLeft None = Unit {0}
NothingLeft (Some left) = left ≡ []

-- The tape that was read: at the end, all of the source's bytes; at a fault, those before it; at the
-- limit, as many as a tape may have, and one more was read.
abbrev pub IsTape : Ending → Option (List ℕ) → List ℕ → Option (List ℕ) → Type 0
IsTape End before tape after = (IsRead before tape after) × NothingLeft after
IsTape Fault before tape after = IsRead before tape after
IsTape Limit before tape after =
    (read : List ℕ) × (IsRead before read after × (length read ≡ tape_limit + 1) × (tape ≡ take tape_limit read))
