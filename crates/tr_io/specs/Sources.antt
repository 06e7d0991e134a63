-- What a read says of the bytes that a source has left.
use Rattle.std.specs.Prelude.{◌≡◌, ℕ, ◌≤◌, List, [], length, take, drop, Option, Some, None}
use Rattle.tr_io.specs.declared.source.ReadAnswer.{ReadAnswer}
use Rattle.tr_io.specs.declared.source.ReadAnswer.TheVariants.{Got, End, Failed}

-- A read gets at least one byte and at most as many as fit the buffer.
abbrev pub GotWithin : ReadAnswer → List ℕ → Type 0
GotWithin (Got n) buffer = (1 ≤ n) × (n ≤ length buffer)
GotWithin End buffer = Unit {0}
GotWithin Failed buffer = Unit {0}

-- Where the bytes left are told: a read that got n bytes put the next n into the buffer; the end
-- comes where none are left; a read that failed leaves them all.
abbrev pub ReadsNext : ReadAnswer → List ℕ → List ℕ → Option (List ℕ) → Type 0
ReadsNext (Got n) buffer rest after = (n ≤ length rest) × (take n buffer ≡ take n rest) × (after ≡ Some (drop n rest))
ReadsNext End buffer rest after = (rest ≡ []) × (after ≡ Some rest)
ReadsNext Failed buffer rest after = after ≡ Some rest

-- The same for a source that may not tell: then it never tells.
abbrev pub ReadsFrom : Option (List ℕ) → ReadAnswer → List ℕ → Option (List ℕ) → Type 0
ReadsFrom None answer buffer after = after ≡ None
ReadsFrom (Some rest) answer buffer after = ReadsNext answer buffer rest after
