use Rattle.run_digest.proofs.NextFour.{four_next}
use Rattle.run_digest.proofs.schedule.next_four.Goals as goal

pub returns : goal.returns
returns c = λ block n le at_a at_b at_c at_d.
    let fits_a = rw at_a at c.fits-a in
    let fits_b = rw at_b at c.fits-b in
    let fits_c = rw at_c at c.fits-c in
    let fits_d = rw at_d at c.fits-d in
    let but_first = rw (at_a, at_b, at_c, at_d) at c.turn-but_first.ensures in
    four_next block n c.turn-but_first.result c.turn.result le fits_a.1 fits_b.1 fits_c.1 fits_d.1 but_first c.turn.ensures
