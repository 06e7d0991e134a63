-- What counts of a `Hasher`.
use Rattle.std.specs.Prelude.{◌%◌, take}
use Rattle.run_digest.specs.HashState.{HashState}
use Rattle.run_digest.specs.declared.hasher.Hasher.{Hasher}

-- Of the block begun, only the bytes that came.
abbrev pub value_of : Hasher → HashState
value_of s = record { hash = s.hash; rest = take (s.total % 64) s.block_bytes; total = s.total }
