-- What a tape begins with, as it is read.
use Rattle.std.specs.Prelude.{◌≡◌, ◌<◌, ℕ, List, length, take, drop}
use Rattle.cell_codec.specs.declared.cell.Body.{Body}
use Rattle.cell_codec.specs.declared.cell.Body.TheVariants.{Fixed, Var}
use Rattle.cell_codec.specs.declared.cell.Cell.{Cell}
use Rattle.cell_codec.specs.Cells.{IsWellFormed}
use Rattle.tape.specs.declared.record.Record.{Record}
use Rattle.switch_model.specs.Limits.{worker_limit}
use Rattle.tape.specs.declared.record.Record.TheVariants.{ChannelUp, OpenCircuit, Take, Claim, GiveBack, Abandon, NextCell, DialOrder, TearDown}
use Rattle.tape.specs.declared.record.Front.{Front}
use Rattle.tape.specs.declared.record.Front.TheVariants.{Whole, Cut, Bad, NotBuilt}

-- What a tape begins with: a whole record and the bytes behind it; less than a record; bytes that
-- begin none; or a record of a kind that isn't built.
pub data FrontOf : Type 0 where
  record_and : Record → List ℕ → FrontOf
  less : FrontOf
  no_record : FrontOf
  unbuilt : ℕ → FrontOf

-- n bytes from an offset on.
abbrev pub field : ℕ → ℕ → List ℕ → List ℕ
field at n bytes = take n (drop at bytes)

-- A record as its bytes determine it: how many places of a cell's list are spare is no part of it.
abbrev pub bare_body : Body → Body
bare_body (Fixed payload) = Fixed payload
bare_body (Var list) = Var (record { items = list.items; spare = 0 })

abbrev pub bare_cell : Cell → Cell
bare_cell cell = record { circ = cell.circ; command = cell.command; body = bare_body cell.body }

abbrev pub bare : Record → Record
bare (ChannelUp slot side) = ChannelUp slot side
bare (OpenCircuit chan y pad request) = OpenCircuit chan y pad request
bare (Take chan cell) = Take chan (bare_cell cell)
bare (Claim worker) = Claim worker
bare (GiveBack claim) = GiveBack claim
bare (Abandon claim) = Abandon claim
bare (NextCell chan tick) = NextCell chan tick
bare DialOrder = DialOrder
bare (TearDown circ reason) = TearDown circ reason

-- What a record says meets the condition of its call.
abbrev pub MeetsCall : Record → Type 0
MeetsCall (ChannelUp slot side) = Unit {0}
MeetsCall (OpenCircuit chan y pad request) = Unit {0}
MeetsCall (Take chan cell) = IsWellFormed cell
MeetsCall (Claim worker) = worker < worker_limit
MeetsCall (GiveBack claim) = Unit {0}
MeetsCall (Abandon claim) = Unit {0}
MeetsCall (NextCell chan tick) = Unit {0}
MeetsCall DialOrder = Unit {0}
MeetsCall (TearDown circ reason) = Unit {0}

-- The code's front, by what its rest points to.
abbrev pub plain_front : Front → FrontOf
plain_front (Whole call rest) = record_and (bare call) rest.now
plain_front Cut = less
plain_front Bad = no_record
plain_front (NotBuilt kind) = unbuilt kind

abbrev pub FrontIs : Front → FrontOf → Type 0
FrontIs front what = plain_front front ≡ what

abbrev pub FrontMeetsCall : Front → Type 0
FrontMeetsCall (Whole call rest) = MeetsCall call
FrontMeetsCall Cut = Unit {0}
FrontMeetsCall Bad = Unit {0}
FrontMeetsCall (NotBuilt kind) = Unit {0}

-- What is behind a record is shorter than so many bytes.
abbrev pub RestIsShorter : Front → ℕ → Type 0
RestIsShorter (Whole call rest) n = length rest.now < n
RestIsShorter Cut n = Unit {0}
RestIsShorter Bad n = Unit {0}
RestIsShorter (NotBuilt kind) n = Unit {0}
