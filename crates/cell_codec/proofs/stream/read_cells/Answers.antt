use Rattle.std.proofs.Common.{◌≡◌, ◌++◌, [], map, Some, None, ap, sym, ◌∙◌}
use Rattle.std.proofs.lemmas.List.{append-nil}
use Rattle.std.proofs.lemmas.List.Elements.{All-push}
use Rattle.tor_spec.specs.CellReading.{cell_at, cell_of, later_reading}
use Rattle.tor_spec.proofs.CellReadingSteps.{later_reading-none, later_reading-some}
use Rattle.cell_codec.specs.Cells.{wire_cell, IsWellFormed}
use Rattle.cell_codec.proofs.Collected.{collects}
use Rattle.cell_codec.proofs.stream.read_cells.Goals as goal

pub loop-cell-preserved : goal.loop-cell-preserved
loop-cell-preserved c =
    let e : cell_at c.loop-cell.rest_bytes.now ≡ Some (cell_of c.in-Some.cell.now, c.in-Some.tail.now) = c.in-Some.ensures.at in
    let step = later_reading-some _ _ e in
    record {
      cells =
          collects wire_cell _ _ _ _ _ _ c.in_ok-push.ensures.ok c.in_ok-read_cell.ensures.cell
          (rw step at c.loop-cell.invariant.cells);
      left = sym (ap (λ r. r.left) step) ∙ c.loop-cell.invariant.left;
      well_formed =
          λ h. rw c.in_ok-push.ensures.ok
          (All-push IsWellFormed _ _ (c.loop-cell.invariant.well_formed h) c.in_ok-read_cell.ensures.well_formed);
    }

pub returns-clause-cells : goal.returns-clause-cells
returns-clause-cells c =
    let none : cell_at c.loop-cell.rest_bytes.now ≡ None = c.in_default.ensures.at in
    let nothing : (later_reading c.loop-cell.rest_bytes.now).cells ≡ [] = ap (λ r. r.cells) (later_reading-none _ none) in
    sym (append-nil _) ∙ ap (λ more. map wire_cell c.loop-cell.cells.items ++ more) (sym nothing) ∙ c.loop-cell.invariant.cells

pub returns-clause-left : goal.returns-clause-left
returns-clause-left c =
    let none : cell_at c.loop-cell.rest_bytes.now ≡ None = c.in_default.ensures.at in
    sym (ap (λ u. u.bytes) c.loop-cell.invariant.left) ∙ ap (λ r. r.left.bytes) (later_reading-none _ none)
