-- What a write says of the bytes that a sink holds, and of those that it flushed.
use Rattle.std.specs.Prelude.{◌≡◌, ℕ, ◌<◌, ◌≤◌, List, ◌++◌, length, take, Option, Some, None}
use Rattle.tr_io.specs.declared.sink.WriteAnswer.{WriteAnswer}
use Rattle.tr_io.specs.declared.sink.WriteAnswer.TheVariants.{Took, Failed}

-- A write takes at least one byte of a piece that has some, and at most all of it.
abbrev pub TookWithin : WriteAnswer → List ℕ → Type 0
TookWithin (Took n) piece = (n ≤ length piece) × (0 < length piece → 1 ≤ n)
TookWithin Failed piece = Unit {0}

-- Where the bytes written are told: what was taken stands behind them; a write that failed leaves them.
abbrev pub WritesNext : WriteAnswer → List ℕ → List ℕ → Option (List ℕ) → Type 0
WritesNext (Took n) piece bytes after = after ≡ Some (bytes ++ take n piece)
WritesNext Failed piece bytes after = after ≡ Some bytes

-- The same for a sink that may not tell: then it never tells.
abbrev pub WritesTo : Option (List ℕ) → WriteAnswer → List ℕ → Option (List ℕ) → Type 0
WritesTo None answer piece after = after ≡ None
WritesTo (Some bytes) answer piece after = WritesNext answer piece bytes after

-- Where the bytes flushed are told: those flushed before stay in front.
abbrev pub KeepsFlushed : Option (List ℕ) → Option (List ℕ) → Type 0
KeepsFlushed None after = after ≡ None
KeepsFlushed (Some bytes) None = ⊥
KeepsFlushed (Some bytes) (Some after) = (more : List ℕ) × (after ≡ bytes ++ more)

-- A flush that doesn't fail has flushed all that was written.
abbrev pub FlushesAll : WriteAnswer → Option (List ℕ) → Option (List ℕ) → Type 0
FlushesAll (Took n) written flushed = flushed ≡ written
FlushesAll Failed written flushed = Unit {0}
