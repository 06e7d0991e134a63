-- Text in payloads.
use Rattle.std.specs.Prelude.{ℕ, List, Bool, ◌==◌, if◌then◌else◌, Option, Some, None}
use Rattle.std.specs.List.{list_any, before_first}

abbrev pub is_zero_byte : ℕ → Bool
is_zero_byte b = b == 0

-- The text that a zero byte ends: what stands before the first one, which must be there.
unfoldable pub terminated_text : List ℕ → Option (List ℕ)
terminated_text bytes =
    if list_any is_zero_byte bytes then Some (before_first is_zero_byte bytes) else None
