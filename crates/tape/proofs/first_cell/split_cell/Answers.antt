use Rattle.std.proofs.Common.{◌≡◌, ◌∙◌, sym, Some}
use Rattle.tor_spec.specs.CellReading.{cell_size}
use Rattle.tor_spec.proofs.CellSizes.{cell_size-take}
use Rattle.tor_spec.proofs.CellCuts.{cell_ended, cell_unfinished, cell_at-shorter}
use Rattle.tape.proofs.first_cell.split_cell.Goals as goal

pub returns-then-size-bytes-clause-size : goal.returns-then-size-bytes-clause-size
returns-then-size-bytes-clause-size c =
    let size : cell_size c.args.bytes.now ≡ Some c.in_ok-size.size = sym c.size_of_cell.ensures ∙ c.in_ok-size.was in
    rw c.split_at.ensures.front (cell_size-take _ _ size c.if-size-bytes.true)

pub returns-then-size-bytes-clause-shorter : goal.returns-then-size-bytes-clause-shorter
returns-then-size-bytes-clause-shorter c =
    let size : cell_size c.args.bytes.now ≡ Some c.in_ok-size.size = sym c.size_of_cell.ensures ∙ c.in_ok-size.was in
    rw c.split_at.ensures.back (cell_at-shorter _ _ (cell_ended _ _ size c.if-size-bytes.true))

pub returns-else-size-bytes-clause-at : goal.returns-else-size-bytes-clause-at
returns-else-size-bytes-clause-at c =
    cell_unfinished _ _ (sym c.size_of_cell.ensures ∙ c.in_ok-size.was) c.if-size-bytes.false
