-- The statuses of a tape's run, and their causes.
use Rattle.std.specs.Prelude.{ℕ, List, [], ◌∷◌, Bool, false, codes, bytes_eq}
use Rattle.tr_io.specs.declared.status.Status.{Status}
use Rattle.tr_io.specs.declared.status.Status.TheVariants.{Done, Usage, Settings, ReadFault, WriteFault, BadTape, NotBuilt, TooLong, DoorFault, CrewFault, Memory, LinkRefused, CircuitClosed, StreamEnded}

-- The command line `tape`.
abbrev pub is_tape_line : List (List ℕ) → Bool
is_tape_line (word ∷ []) = bytes_eq word (codes "tape")
is_tape_line words = false

-- The statuses that a tape whose bytes were read may have.
abbrev pub IsRunStatus : Status → Type 0
IsRunStatus Done = Unit {0}
IsRunStatus ReadFault = Unit {0}
IsRunStatus WriteFault = Unit {0}
IsRunStatus (BadTape place) = Unit {0}
IsRunStatus (NotBuilt kind) = Unit {0}
IsRunStatus TooLong = Unit {0}
IsRunStatus Memory = Unit {0}
IsRunStatus Usage = ⊥
IsRunStatus (Settings rule) = ⊥
IsRunStatus DoorFault = ⊥
IsRunStatus CrewFault = ⊥
IsRunStatus (LinkRefused cause) = ⊥
IsRunStatus (CircuitClosed cause) = ⊥
IsRunStatus (StreamEnded reason) = ⊥
