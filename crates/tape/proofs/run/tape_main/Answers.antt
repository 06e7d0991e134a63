use Rattle.std.proofs.Common.{refl}
use Rattle.tape.proofs.Readings.{run_done, finished, unread}
use Rattle.tape.proofs.run.tape_main.Goals as goal

pub returns-in-Ok-clause-run : goal.returns-in-Ok-clause-run
returns-in-Ok-clause-run g c line =
    finished _ _ _ _ _ c.in-Ok.ensures.cause c.in-Ok.ensures.tape c.play.ensures.play

pub returns-in-Ok-clause-done : goal.returns-in-Ok-clause-done
returns-in-Ok-clause-done g c line =
    run_done _ _ _ (finished _ _ _ _ _ c.in-Ok.ensures.cause c.in-Ok.ensures.tape c.play.ensures.play)

pub returns-in-Err-clause-run : goal.returns-in-Err-clause-run
returns-in-Err-clause-run g c line = unread _ _ c.in-Err.ensures.read refl

pub returns-in-Err-clause-done : goal.returns-in-Err-clause-done
returns-in-Err-clause-done g c line =
    run_done _ _ _ (unread _ _ c.in-Err.ensures.read refl)
