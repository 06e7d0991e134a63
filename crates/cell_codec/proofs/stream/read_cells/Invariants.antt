use Rattle.std.proofs.Common.{◌≡◌, ◌++◌, length, map, All}
use Rattle.tor_spec.specs.CellReading.{later_reading}
use Rattle.cell_codec.specs.Cells.{wire_cell, IsWellFormed}
use Rattle.cell_codec.proofs.stream.read_cells.Given as goal

abbrev pub invariant-loop-cell : goal.invariant-loop-cell
invariant-loop-cell l = record {
  cells : map wire_cell l.cells.items ++ (later_reading l.rest_bytes).cells ≡ map wire_cell l.fn.cells.items
      ++ (later_reading l.bytes).cells;
  left : (later_reading l.rest_bytes).left ≡ (later_reading l.bytes).left;
  well_formed : All IsWellFormed l.fn.cells.items → All IsWellFormed l.cells.items;
}

abbrev pub decreases-loop-cell : goal.decreases-loop-cell
decreases-loop-cell l = length l.rest_bytes
