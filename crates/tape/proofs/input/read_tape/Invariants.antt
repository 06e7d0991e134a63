use Rattle.std.proofs.Common.{◌+◌, ◌-◌, ◌^◌, vec_len}
use Rattle.tape.proofs.InputLaws.{Reading}
use Rattle.tape.proofs.input.read_tape.Given as goal

abbrev pub invariant-loop-chunk : goal.invariant-loop-chunk
invariant-loop-chunk g l =
    Reading (g.S.Source.rest l.initial.source) (g.S.Source.rest l.source) (g.S.Source.faults l.initial.source)
    (g.S.Source.faults l.source) l.bytes.items l.chunk

abbrev pub decreases-loop-chunk : goal.decreases-loop-chunk
decreases-loop-chunk g l = 2 ^ 28 + 1 - vec_len l.bytes
