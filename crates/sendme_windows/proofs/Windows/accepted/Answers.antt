use Rattle.sendme_windows.specs.Counts.{state_of}
use Rattle.sendme_windows.proofs.Standing.{one_accepted}
use Rattle.sendme_windows.proofs.Windows.accepted.Goals as goal

pub returns-clause-stands : goal.returns-clause-stands
returns-clause-stands c = λ w stands. one_accepted (state_of c.self.inside) w _ (rw c.self.view_is stands)
