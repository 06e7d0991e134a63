-- What was written to a sink.
use Rattle.std.specs.Prelude.{◌≡◌, ℕ, List, ◌++◌, take, Option, Some, None}

-- Where a sink tells its bytes: this piece stands behind those that it had.
abbrev pub IsWritten : Option (List ℕ) → List ℕ → Option (List ℕ) → Type 0
IsWritten None piece after = after ≡ None
IsWritten (Some bytes) piece after = after ≡ Some (bytes ++ piece)

-- The first so many bytes of the piece were written.
abbrev pub IsPartWritten : Option (List ℕ) → List ℕ → Option (List ℕ) → Type 0
IsPartWritten before piece after = (n : ℕ) × IsWritten before (take n piece) after
