-- Decaying cell counts (after Tor's EWMA, in fixed-point numbers; own rule): each cell that is sent
-- adds to its leg's count, and each tick halves it.
use Rattle.std.specs.Prelude.{ℕ, ◌+◌, ◌-◌, ◌/◌, ◌^◌, min}

-- A count after so many ticks: each halves it, rounded down.
abbrev pub halved : ℕ → ℕ → ℕ
halved count ticks = count / 2 ^ ticks

-- A count after one more cell. It stops at 2^64 - 1.
abbrev pub charged : ℕ → ℕ
charged count = min (count + 65536) (2 ^ 64 - 1)
