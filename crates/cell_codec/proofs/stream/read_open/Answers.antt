use Rattle.std.proofs.Common.{sym, arith, subst, length-append}
use Rattle.tor_spec.specs.CellReading.{Reading}
use Rattle.tor_spec.proofs.CellCuts.{cell_untold, cell_unfinished, size_beyond}
use Rattle.cell_codec.specs.Decoding.{ReadsCells}
use Rattle.cell_codec.proofs.Readings.{cut_size, cut_reading}
use Rattle.cell_codec.proofs.stream.read_open.Goals as goal

pub returns-in_default : goal.returns-in_default
returns-in_default c = cell_untold _ (sym c.in_default.ensures)

pub returns-then-rest-piece : goal.returns-then-rest-piece
returns-then-rest-piece c = cell_unfinished _ _ (sym c.in-Some.ensures) (simp length-append (omega arith))

pub cut_off-requires-clause-begun : goal.cut_off-requires-clause-begun
cut_off-requires-clause-begun c = size_beyond _ _ _ c.requires (sym c.in-Some.ensures)

pub cut_off-requires-clause-ended : goal.cut_off-requires-clause-ended
cut_off-requires-clause-ended c = simp length-append (omega arith)

pub finish_cell-requires : goal.finish_cell-requires
finish_cell-requires c =
    cut_size _ _ _ _ _ c.cut_off.ensures (sym c.in-Some.ensures)

pub returns : goal.returns
returns c =
    subst (λ (r : Reading). ReadsCells r c.in_ok-read_behind.field-0.0.items c.in_ok-read_behind.field-0.1.now)
    (cut_reading _ _ _ _ _ _ c.cut_off.ensures (sym c.in-Some.ensures) c.in_ok-first.ensures.cell) c.in_ok-read_behind.ensures
