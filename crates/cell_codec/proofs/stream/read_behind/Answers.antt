use Rattle.cell_codec.proofs.Readings.{reads_behind}
use Rattle.cell_codec.proofs.stream.read_behind.Goals as goal

pub returns : goal.returns
returns c =
    reads_behind _ _ _ _ _ _ c.requires c.new-cells.ensures c.in_ok-push.ensures.ok
    c.in_ok-rest_bytes.ensures.cells c.in_ok-rest_bytes.ensures.left c.in_ok-rest_bytes.ensures.well_formed
