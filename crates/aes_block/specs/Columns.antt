-- The state of the cipher as its four columns.
use Rattle.std.specs.Prelude.{ℕ, List, ◌++◌}
use Rattle.std.specs.Int.{w32, to_le_bytes}
use Rattle.aes_block.specs.declared.state.State.{State}

-- the state's 16 bytes, column by column, row 0 of each first
abbrev pub bytes_of : State → List ℕ
bytes_of s = to_le_bytes w32 s.first ++ to_le_bytes w32 s.second ++ to_le_bytes w32 s.third ++ to_le_bytes w32 s.fourth
