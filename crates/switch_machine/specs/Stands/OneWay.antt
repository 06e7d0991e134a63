-- One direction of a circuit: what came home, what is out and what waits is what the direction was given.
use Rattle.std.specs.Prelude.{ℕ, ◌≡◌, ⊤, ◌+◌, List, ◌++◌, length, map, Option, Some, None}
use Rattle.circuit_model.specs.Events.{CircuitCell}
use Rattle.tr_io.specs.declared.names.ClaimNote.{ClaimNote}
use Rattle.tr_io.specs.declared.names.Dir.{Dir}
use Rattle.switch_machine.specs.State.{KeptClaim, WaitingCell, WayState}
use Rattle.switch_machine.specs.Machine.{kept_note, kept_cells}

abbrev pub cell_waiting : WaitingCell → CircuitCell
cell_waiting body = body.cell

abbrev pub number_waiting : WaitingCell → ℕ
number_waiting body = body.number

-- The claim that is out took the bodies behind those that came home.
pub record IsNoteOf (c : ℕ) (dir : Dir) (home : ℕ) (claim_out : KeptClaim) : Type 0 where
  pub circ : claim_out.note.circ.0 ≡ c
  pub dir_is : claim_out.note.dir ≡ dir
  pub first : claim_out.note.first ≡ home
  pub count : claim_out.note.count ≡ length claim_out.cells

abbrev pub IsNoted : ℕ → Dir → ℕ → Option KeptClaim → Type 0
IsNoted c dir home None = ⊤
IsNoted c dir home (Some claim_out) = IsNoteOf c dir home claim_out

-- `settled_cells` came home, `given_cells` are all that the direction was given, and `all_numbers` are the body numbers of that.
pub record WayStands
    (c : ℕ) (dir : Dir) (way : WayState) (settled_cells given_cells : List CircuitCell)
    (count : ℕ) (note : Option ClaimNote) (all_numbers : List ℕ) : Type 0 where
  pub claimed_count : way.claimed_count ≡ count
  pub out : way.claimed_count ≡ length settled_cells + length (kept_cells way.claim_out)
  pub claim_out : kept_note way.claim_out ≡ note
  pub noted : IsNoted c dir (length settled_cells) way.claim_out
  pub cells : settled_cells ++ kept_cells way.claim_out ++ map cell_waiting way.waiting_bodies ≡ given_cells
  -- the numbers of the bodies that were claimed, and of those that wait
  pub claimed_numbers : List ℕ
  pub claimed_all : length claimed_numbers ≡ way.claimed_count
  pub numbers : claimed_numbers ++ map number_waiting way.waiting_bodies ≡ all_numbers
