use Rattle.std.proofs.Common.{arith}
use Rattle.run_digest.proofs.WordsInPlace.{loaded}
use Rattle.run_digest.proofs.schedule.load.Goals as goal

pub returns : goal.returns
returns c = λ block n le has.
    loaded block c.args.words.now c.args.at _ n (omega arith) le (omega arith) has
