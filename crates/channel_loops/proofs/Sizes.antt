-- How long a cell is on a link.
use Rattle.std.proofs.Common.{◌≡◌, ◌≤◌, length, Bool, true, false, arith, refl}
use Rattle.cell_codec.specs.declared.cell.Cell.{Cell}
use Rattle.cell_codec.specs.Cells.{wire_cell, IsWellFormed}
use Rattle.tor_spec.specs.CellEncoding.{WireCell, is_variable, encoding}

fits : (c : WireCell) (b : Bool) → is_variable c.command ≡ b → length c.payload ≤ 65535 → length (encoding c) ≤ 65542
fits c true is size = rw is (omega (arith, size))
fits c false is size = rw is (omega (arith, size))

pub encoding_fits : (cell : Cell) → IsWellFormed cell → length (encoding (wire_cell cell)) ≤ 65542
encoding_fits cell is = fits (wire_cell cell) (is_variable cell.command) refl is.size
