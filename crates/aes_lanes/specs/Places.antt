-- Where the bytes of a state stand, and where a step of the cipher takes the byte of a place from.
use Rattle.std.specs.Prelude.{ℕ, ◌+◌, ◌*◌, ◌/◌, ◌%◌}

-- Place r + 4c of a state is row r of column c.

-- ShiftRows (FIPS 197, 5.1.2): row r comes r columns from the right
abbrev pub moved_to : ℕ → ℕ
moved_to i = i % 4 + 4 * ((i / 4 + i % 4) % 4)

-- the next row of the same column
abbrev pub row_below : ℕ → ℕ
row_below i = 4 * (i / 4) + (i + 1) % 4

abbrev pub two_rows_below : ℕ → ℕ
two_rows_below i = 4 * (i / 4) + (i + 2) % 4

-- Its lane is c + 4r: a row is four lanes side by side.
abbrev pub lane_of : ℕ → ℕ
lane_of i = i / 4 + 4 * (i % 4)

-- the same three steps for lanes
abbrev pub shifted_lane : ℕ → ℕ
shifted_lane l = 4 * (l / 4) + (l % 4 + l / 4) % 4

abbrev pub next_row : ℕ → ℕ
next_row l = (l + 4) % 16

abbrev pub second_row : ℕ → ℕ
second_row l = (l + 8) % 16
