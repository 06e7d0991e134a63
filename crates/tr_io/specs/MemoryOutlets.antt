-- What the halves of an outlet in memory tell.
use Rattle.std.specs.Prelude.{ℕ, suc, List, [], ◌∷◌, length, Bool, false, Option, Some, None, slice_get, ◌==◌}
use Rattle.tr_io.specs.declared.memory_input.MemoryInput.{MemoryInput}
use Rattle.tr_io.specs.declared.names.Dest.{Dest}
use Rattle.tr_io.specs.Outlets.{OutletSession}

-- The sessions that reached these destinations, numbered from the given number on.
unfoldable pub sessions_from : ℕ → List Dest → List OutletSession
sessions_from number [] = []
sessions_from number (to ∷ rest) = record { number = number; to = to } ∷ sessions_from (suc number) rest

abbrev pub outlet_sessions : List Dest → List OutletSession
outlet_sessions destinations = sessions_from 0 destinations

-- All of the input was read.
abbrev pub is_read : MemoryInput → Bool
is_read input = length input.bytes.items == input.read_count

abbrev pub ends_of : Option MemoryInput → Bool
ends_of None = false
ends_of (Some input) = is_read input

-- The input of the session with this number is at its end.
abbrev pub input_ends : List MemoryInput → ℕ → Bool
input_ends inputs session = ends_of (slice_get inputs session)
