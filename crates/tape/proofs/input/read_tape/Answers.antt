use Rattle.std.proofs.Common.{◌++◌, take, refl}
use Rattle.tape.proofs.InputLaws.{read_more}
use Rattle.tape.proofs.Plays.{on_err}
use Rattle.tape.proofs.input.read_tape.Goals as goal

pub returns-in_err-extend_from_slice-in-Got-clause-read : goal.returns-in_err-extend_from_slice-in-Got-clause-read
returns-in_err-extend_from_slice-in-Got-clause-read g c =
    on_err _ c.from_residual.result (
      c.loop-chunk.bytes.items ++ take c.in-Got.count c.read.new.into,
      read_more _ _ _ c.loop-chunk.bytes.items c.read.new.into _ c.in-Got.count c.loop-chunk.invariant.read c.in-Got.ensures.bytes
          refl,
    )
