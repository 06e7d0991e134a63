-- Reading a link's bytes as cells (tor-spec, "Cell format" and "Negotiating versions"). VERSIONS
-- opens the link with a CircID of 2 bytes; behind it each CircID has 4.
use Rattle.std.specs.Prelude.{ℕ, ◌+◌, [], ◌∷◌, ◌++◌, List, length, take, drop, slice_index, Bool, true, false, ◌==◌, ◌&&◌, nat_lt, nat_le, if◌then◌else◌, Option, Some, None, option_and_then, zero, suc}
use Rattle.std.specs.Option.{option_map_or}
use Rattle.std.specs.Int.{w16, w32, from_be_bytes}
use Rattle.tor_spec.specs.CellCommands.{versions_command}
use Rattle.tor_spec.specs.CellEncoding.{WireCell, is_variable}

-- How many bytes the cell has that these begin with, once they tell: 514, or 7 and the length
-- that a variable-length cell gives.
unfoldable pub cell_size : List ℕ → Option ℕ
cell_size bytes =
    if nat_lt (length bytes) 5 then None
    else if is_variable (slice_index bytes 4) then
    (if nat_lt (length bytes) 7 then None
    else Some (7 + from_be_bytes w16 (slice_index bytes 5 ∷ slice_index bytes 6 ∷ [])))
    else Some 514

-- The cell that has exactly these bytes.
unfoldable pub cell_of : List ℕ → WireCell
cell_of bytes = record {
  circuit = from_be_bytes w32 (take 4 bytes);
  command = slice_index bytes 4;
  payload = drop (if is_variable (slice_index bytes 4) then 7 else 5) bytes;
}

-- The same for the cell that opens a link.
unfoldable pub first_size : List ℕ → Option ℕ
first_size bytes =
    if nat_lt (length bytes) 5 then None
    else Some (5 + from_be_bytes w16 (slice_index bytes 3 ∷ slice_index bytes 4 ∷ []))

unfoldable pub first_of : List ℕ → WireCell
first_of bytes = record {
  circuit = from_be_bytes w16 (take 2 bytes);
  command = slice_index bytes 2;
  payload = drop 5 bytes;
}

-- The cell that the bytes begin with, if it has ended, and the bytes behind it.
abbrev pub cut_off : (List ℕ → WireCell) → List ℕ → ℕ → Option (WireCell × List ℕ)
cut_off of bytes size = if nat_le size (length bytes) then Some (of (take size bytes), drop size bytes) else None

unfoldable pub cell_at : List ℕ → Option (WireCell × List ℕ)
cell_at bytes = option_and_then (cut_off cell_of bytes) (cell_size bytes)

unfoldable pub first_at : List ℕ → Option (WireCell × List ℕ)
first_at bytes = option_and_then (cut_off first_of bytes) (first_size bytes)

-- The CircID and the command with which a link begins, where three bytes show that these aren't
-- 0 and VERSIONS.
unfoldable pub wrong_start : List ℕ → Option (ℕ × ℕ)
wrong_start bytes =
    if nat_lt (length bytes) 3 then None
    else if (from_be_bytes w16 (slice_index bytes 0 ∷ slice_index bytes 1 ∷ []) == 0) && (slice_index bytes 2 == versions_command)
    then None
    else Some (from_be_bytes w16 (slice_index bytes 0 ∷ slice_index bytes 1 ∷ []), slice_index bytes 2)

-- What a link's bytes leave unread: the bytes behind its last cell, and whether its first cell
-- is still to end.
pub record Unread : Type 0 where
  pub opening : Bool
  pub bytes : List ℕ

-- A link before its first byte, and one whose first cell was read elsewhere.
abbrev pub link_start : Unread
link_start = record { opening = true; bytes = [] }

abbrev pub link_open : Unread
link_open = record { opening = false; bytes = [] }

-- The same with a further piece of the link.
abbrev pub with_piece : Unread → List ℕ → Unread
with_piece u piece = record { opening = u.opening; bytes = u.bytes ++ piece }

-- The cells that have ended, in order, and what is left unread.
pub record Reading : Type 0 where
  pub cells : List WireCell
  pub left : Unread

abbrev pub with_cell : WireCell → Reading → Reading
with_cell c r = record { cells = c ∷ r.cells; left = r.left }

-- Cell after cell, at most n of them.
unfoldable pub reading_within : ℕ → List ℕ → Reading
reading_within zero bytes = record { cells = []; left = record { opening = false; bytes = bytes } }
reading_within (suc n) bytes =
    option_map_or (λ found. with_cell found.0 (reading_within n found.1)) (cell_at bytes)
    (record { cells = []; left = record { opening = false; bytes = bytes } })

-- No cell is empty, so there are fewer cells than bytes.
unfoldable pub later_reading : List ℕ → Reading
later_reading bytes = reading_within (length bytes) bytes

-- The first cell and the later ones. A link that begins otherwise has no cell, and the three
-- bytes that show it are all that is kept of it.
unfoldable pub first_reading : List ℕ → Reading
first_reading bytes =
    option_map_or (λ _. record { cells = []; left = record { opening = true; bytes = take 3 bytes } }) (wrong_start bytes)
    (option_map_or (λ found. with_cell found.0 (later_reading found.1)) (first_at bytes)
    (record { cells = []; left = record { opening = true; bytes = bytes } }))

unfoldable pub reading : Unread → Reading
reading u = if u.opening then first_reading u.bytes else later_reading u.bytes

-- Why a link with these bytes is refused.
unfoldable pub refusal : Unread → Option (ℕ × ℕ)
refusal u = if u.opening then wrong_start u.bytes else None
