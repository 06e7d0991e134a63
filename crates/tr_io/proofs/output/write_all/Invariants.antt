use Rattle.std.proofs.Common.{length}
use Rattle.tr_io.proofs.OutputLaws.{Writing}
use Rattle.tr_io.proofs.output.write_all.Given as goal

abbrev pub invariant-loop-rest_bytes : goal.invariant-loop-rest_bytes
invariant-loop-rest_bytes g l =
    Writing (g.K.Sink.written l.initial.sink) (g.K.Sink.written l.sink) (g.K.Sink.faults l.initial.sink) (g.K.Sink.faults l.sink)
    l.initial.piece l.rest_bytes

abbrev pub decreases-loop-rest_bytes : goal.decreases-loop-rest_bytes
decreases-loop-rest_bytes g l = length l.rest_bytes
