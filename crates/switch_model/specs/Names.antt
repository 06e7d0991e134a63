-- The names that a history uses, as numbers and lists of bytes.
use Rattle.std.specs.Prelude.{ℕ, ◌==◌, ◌&&◌, nat_eq, Bool, true, false, Option, Some, None}
use Rattle.std.specs.Cmp.Lexicographic.{pointwise}
use Rattle.cell_codec.specs.declared.cell.Cell.{Cell}
use Rattle.cell_codec.specs.Cells.{payload_of}
use Rattle.tor_spec.specs.Extend.{Address}
use Rattle.circuit_model.specs.Events.{CircuitCell}
use Rattle.circuit_model.specs.Log.{StreamKey as PlaceKey}
use Rattle.tr_io.specs.declared.names.ChanNo.{ChanNo}
use Rattle.tr_io.specs.declared.names.CircNo.{CircNo}
use Rattle.tr_io.specs.declared.names.ClaimNote.{ClaimNote}
use Rattle.tr_io.specs.declared.names.Dest.{Dest}
use Rattle.tr_io.specs.declared.names.Dir.{Dir}
use Rattle.tr_io.specs.declared.names.Dir.TheVariants.{Forth, Back}
use Rattle.tr_io.specs.declared.names.StreamKey.{StreamKey}

abbrev pub chan_no : ℕ → ChanNo
chan_no n = record { 0 = n }

abbrev pub circ_no : ℕ → CircNo
circ_no n = record { 0 = n }

-- A leg of a circuit: leg 0 towards the client, leg k towards its k-th next hop.
pub record Leg : Type 0 where
  pub circ : ℕ
  pub number : ℕ

-- One direction of one circuit.
pub record Way : Type 0 where
  pub circ : ℕ
  pub dir : Dir

-- Whether a leg, if there is one, is leg k of circuit c.
abbrev pub is_leg : ℕ → ℕ → Option Leg → Bool
is_leg c k (Some leg) = (leg.circ == c) && (leg.number == k)
is_leg c k None = false

abbrev pub same_dir : Dir → Dir → Bool
same_dir Forth Forth = true
same_dir Back Back = true
same_dir a b = false

abbrev pub same_way : Way → Way → Bool
same_way a b = (a.circ == b.circ) && same_dir a.dir b.dir

-- The direction that a claim took.
abbrev pub way_of : ClaimNote → Way
way_of note = record { circ = note.circ.0; dir = note.dir }

abbrev pub same_note : ClaimNote → ClaimNote → Bool
same_note a b =
    (a.switch == b.switch) && ((a.claim == b.claim) && ((a.worker == b.worker)
    && (same_way (way_of a) (way_of b) && ((a.first == b.first) && (a.count == b.count)))))

-- An address, as the standard and as a call has it.
abbrev pub address_of : Dest → Address
address_of to = record { ip = to.ip; port = to.port }

abbrev pub dest_of : Address → Dest
dest_of to = record { ip = to.ip; port = to.port }

abbrev pub same_dest : Dest → Dest → Bool
same_dest a b = pointwise nat_eq a.ip b.ip && (a.port == b.port)

-- The key of a stream on its circuit.
abbrev pub place_key : StreamKey → PlaceKey
place_key key = record { stream = key.id; serial = key.serial }

-- A cell without its CircID.
abbrev pub circuit_cell : Cell → CircuitCell
circuit_cell cell = record { command = cell.command; body = payload_of cell.body }
