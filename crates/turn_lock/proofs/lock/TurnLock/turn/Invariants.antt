use Rattle.turn_lock.specs.Views.{step_if}
use Rattle.turn_lock.proofs.lock.TurnLock.turn.Given as goal

abbrev pub ghosts-release : goal.ghosts-release
ghosts-release g a =
    record { step = step_if (g.S.Stepping.counts a._answer.now) (g.S.Stepping.step_of a._step_snapshot.now.value a._answer.now) }
