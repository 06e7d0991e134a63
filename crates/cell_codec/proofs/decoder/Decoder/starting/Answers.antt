use Rattle.tor_spec.proofs.CellCuts.{empty_first}
use Rattle.tor_spec.proofs.WrongStarts.{empty_start}
use Rattle.cell_codec.proofs.decoder.Decoder.starting.Goals as goal

pub invariant_of-result : goal.invariant_of-result
invariant_of-result c = (rw c.new.ensures.items empty_start, rw c.new.ensures.items empty_first)
