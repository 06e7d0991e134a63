use Rattle.tor_spec.proofs.CellCuts.{empty_cell}
use Rattle.cell_codec.proofs.decoder.Decoder.cells_only.Goals as goal

pub invariant_of-result : goal.invariant_of-result
invariant_of-result c = rw c.new.ensures.items empty_cell
