-- How a tape's records are spelled. Numbers are big-endian; each record begins with the byte that
-- names its kind.
use Rattle.std.specs.Prelude.{ℕ, List}
use Rattle.tape.specs.declared.record.Record.{Record}
use Rattle.tape.specs.declared.record.Record.TheVariants.{ChannelUp, OpenCircuit, Take, Claim, GiveBack, Abandon, NextCell, DialOrder, TearDown}
use Rattle.tape.specs.Kinds.ChannelUp.{channel_up_spelling, ChannelUpFits}
use Rattle.tape.specs.Kinds.OpenCircuit.{open_circuit_spelling, OpenCircuitFits}
use Rattle.cell_codec.specs.Cells.{wire_cell}
use Rattle.tape.specs.Kinds.Take.{take_spelling, TakeFits}
use Rattle.tape.specs.Kinds.Claim.{claim_spelling, ClaimFits}
use Rattle.tape.specs.Kinds.Return.{return_spelling, ReturnFits}
use Rattle.tape.specs.Kinds.NextCell.{next_cell_spelling, NextCellFits}
use Rattle.tape.specs.Kinds.DialOrder.{dial_order_spelling}
use Rattle.tape.specs.Kinds.TearDown.{tear_down_spelling, TearDownFits}

abbrev pub spelling : Record → List ℕ
spelling (ChannelUp slot side) = channel_up_spelling slot side
spelling (OpenCircuit chan y pad request) = open_circuit_spelling chan.0 y pad request
spelling (Take chan cell) = take_spelling chan.0 (wire_cell cell)
spelling (Claim worker) = claim_spelling worker
spelling (GiveBack claim) = return_spelling 6 claim
spelling (Abandon claim) = return_spelling 7 claim
spelling (NextCell chan tick) = next_cell_spelling chan.0 tick
spelling DialOrder = dial_order_spelling
spelling (TearDown circ reason) = tear_down_spelling circ.0 reason

-- A record's numbers and bytes fit their fields.
abbrev pub FitsFields : Record → Type 0
FitsFields (ChannelUp slot side) = ChannelUpFits slot
FitsFields (OpenCircuit chan y pad request) = OpenCircuitFits chan.0 y pad request
FitsFields (Take chan cell) = TakeFits chan.0 cell
FitsFields (Claim worker) = ClaimFits worker
FitsFields (GiveBack claim) = ReturnFits claim
FitsFields (Abandon claim) = ReturnFits claim
FitsFields (NextCell chan tick) = NextCellFits chan.0 tick
FitsFields DialOrder = Unit {0}
FitsFields (TearDown circ reason) = TearDownFits circ.0 reason
