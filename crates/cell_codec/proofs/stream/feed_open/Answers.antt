use Rattle.std.proofs.Common.{◌≡◌, ◌++◌, None}
use Rattle.tor_spec.specs.CellReading.{cell_at}
use Rattle.cell_codec.proofs.Readings.{reads_none}
use Rattle.cell_codec.proofs.stream.feed_open.Goals as goal

pub returns-in_ok-extend_from_slice-in-None-clause-ok : goal.returns-in_ok-extend_from_slice-in-None-clause-ok
returns-in_ok-extend_from_slice-in-None-clause-ok c =
    let none : cell_at (c.as_slice.result.now ++ c.args.piece.now) ≡ None = rw c.in-None.is at c.in_ok-cells.ensures in
    reads_none _ _ _ (rw c.as_slice.ensures.value at none) c.new.ensures c.in_ok-extend_from_slice-in-None.ensures.items
