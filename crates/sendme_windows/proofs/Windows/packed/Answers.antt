use Rattle.std.proofs.Common.{arith}
use Rattle.std.proofs.lemmas.List.{take_more_set}
use Rattle.sendme_windows.specs.Counts.{state_of}
use Rattle.sendme_windows.proofs.Standing.{packed_due, packed_other}
use Rattle.sendme_windows.proofs.Windows.packed.Goals as goal

pub returns-then-self-eq0-clause-stands : goal.returns-then-self-eq0-clause-stands
returns-then-self-eq0-clause-stands c = λ w stands.
    packed_due (state_of c.self.inside) w c.args.digest.now _ _ (rw c.self.view_is stands) c.if-self-eq0.true
    (omega (arith, c.self.invariant.waiting))
    (take_more_set c.self.inside.owed_proofs c.self.inside.owed_count c.args.digest.now
    (omega (arith, c.requires.room, c.self.invariant.waiting)))

pub returns-else-self-eq0-clause-stands : goal.returns-else-self-eq0-clause-stands
returns-else-self-eq0-clause-stands c = λ w stands.
    packed_other (state_of c.self.inside) w c.args.digest.now _ (rw c.self.view_is stands) c.if-self-eq0.false
