use Rattle.std.proofs.Common.{length}
use Rattle.tape.specs.Playing.{player_state}
use Rattle.tape.proofs.Turns.{TapeTurn}
use Rattle.tape.proofs.run.play_records.Given as goal

abbrev pub invariant-loop-front : goal.invariant-loop-front
invariant-loop-front g l =
    TapeTurn l.initial.player.switch.start.rules l.input.bytes.items l.initial.rest l.rest
    (player_state l.player.switch l.player.jobs) l.player.answers.items (g.K.Sink.written l.initial.sink)
    (g.K.Sink.written l.sink) (g.K.Sink.faults l.initial.sink) (g.K.Sink.faults l.sink)

abbrev pub decreases-loop-front : goal.decreases-loop-front
decreases-loop-front g l = length l.rest
