use Rattle.std.proofs.Common.{subst, sym}
use Rattle.tr_io.specs.Output.{IsPartWritten}
use Rattle.tr_io.proofs.OutputLaws.{all_written}
use Rattle.tape.proofs.Plays.{on_err}
use Rattle.tape.proofs.run.write_rest.Goals as goal

pub returns-clause-err : goal.returns-clause-err
returns-clause-err g c =
    on_err _ c.flush.result
    (subst (λ o. IsPartWritten (g.K.Sink.written c.args.sink.now) c.args.answers.now o) (sym c.flush.ensures.written)
    (all_written _ _ _ c.in_ok-write_all.ensures.ok))
