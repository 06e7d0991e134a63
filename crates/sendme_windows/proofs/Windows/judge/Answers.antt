use Rattle.std.proofs.Common.{arith}
use Rattle.sendme_windows.specs.Counts.{state_of}
use Rattle.sendme_windows.proofs.Standing.{proved, turned}
use Rattle.sendme_windows.proofs.Windows.judge.Goals as goal

pub returns-clause-stands : goal.returns-clause-stands
returns-clause-stands c = λ w stands.
    proved (state_of c.self.inside) w _ _ (rw c.self.view_is stands)
    (rw c.rotate_left.ensures.after
    (turned c.self.inside.owed_count c.self.inside.owed_proofs (omega arith)
    (omega (arith, c.self.invariant.waiting, c.self.invariant.granted, c.self.invariant.most_start))))
