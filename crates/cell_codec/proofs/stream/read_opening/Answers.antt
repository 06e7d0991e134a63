use Rattle.std.proofs.Common.{sym, ◌∙◌, ap, arith, subst, length-append}
use Rattle.tor_spec.specs.CellReading.{first_of, Reading}
use Rattle.tor_spec.proofs.CellCuts.{first_untold, first_unfinished, first_size_beyond}
use Rattle.cell_codec.specs.Decoding.{ReadsCells}
use Rattle.cell_codec.proofs.Readings.{first_cut_size, first_cut_reading, cut_start}
use Rattle.cell_codec.proofs.stream.read_opening.Goals as goal

pub returns-in_default : goal.returns-in_default
returns-in_default c = first_untold _ (sym c.in_default.ensures)

pub returns-then-rest-piece : goal.returns-then-rest-piece
returns-then-rest-piece c = first_unfinished _ _ (sym c.in-Some.ensures) (simp length-append (omega arith))

pub cut_off-requires-clause-begun : goal.cut_off-requires-clause-begun
cut_off-requires-clause-begun c = first_size_beyond _ _ _ c.requires.first (sym c.in-Some.ensures)

pub cut_off-requires-clause-ended : goal.cut_off-requires-clause-ended
cut_off-requires-clause-ended c = simp length-append (omega arith)

pub read_first-requires-clause-size : goal.read_first-requires-clause-size
read_first-requires-clause-size c =
    rw (c.as_slice.ensures.value, c.in_ok-bytes.ensures) (first_cut_size _ _ _ _ _ c.cut_off.ensures (sym c.in-Some.ensures))

pub read_first-requires-clause-start : goal.read_first-requires-clause-start
read_first-requires-clause-start c =
    rw (c.as_slice.ensures.value, c.in_ok-bytes.ensures)
    (cut_start _ _ _ _ _ c.cut_off.ensures (sym c.in-Some.ensures) c.requires.start)

pub returns : goal.returns
returns c =
    let bytes = c.as_slice.ensures.value ∙ c.in_ok-bytes.ensures in
    subst (λ (r : Reading). ReadsCells r c.in_ok-read_behind.field-0.0.items c.in_ok-read_behind.field-0.1.now)
    (first_cut_reading _ _ _ _ _ _ c.cut_off.ensures (sym c.in-Some.ensures) c.requires.start
    (c.in_ok-first.ensures.cell ∙ ap first_of bytes))
    c.in_ok-read_behind.ensures
