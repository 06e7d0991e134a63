use Rattle.std.proofs.Common.{ℕ, ◌+◌, List, arith}
use Rattle.sha1.specs.Sha1.{schedule}
use Rattle.run_digest.specs.Words.{word}
use Rattle.run_digest.proofs.RoundSteps.{next_round}
use Rattle.run_digest.proofs.compress.Variables.after_five.Goals as goal

pub returns : goal.returns
unfolding word
returns c = λ hash block has start.
    let w : List ℕ = schedule block 64 in
    let t : ℕ = c.args.t in
    let one = next_round hash w c.args.stage t (t + 1) _ c.args.self c.after_round.result
    (omega arith) (omega arith) (omega arith) start (has t (omega arith)) c.after_round.ensures in
    let two = next_round hash w c.args.stage (t + 1) (t + 2) _ c.after_round.result c.after_round-2.result
    (omega arith) (omega arith) (omega arith) one (has (t + 1) (omega arith)) c.after_round-2.ensures in
    let three = next_round hash w c.args.stage (t + 2) (t + 3) _ c.after_round-2.result c.after_round-3.result
    (omega arith) (omega arith) (omega arith) two (has (t + 2) (omega arith)) c.after_round-3.ensures in
    let four = next_round hash w c.args.stage (t + 3) (t + 4) _ c.after_round-3.result c.after_round-4.result
    (omega arith) (omega arith) (omega arith) three (has (t + 3) (omega arith)) c.after_round-4.ensures in
    next_round hash w c.args.stage (t + 4) (t + 5) _ c.after_round-4.result c.after_round-5.result
    (omega arith) (omega arith) (omega arith) four (has (t + 4) (omega arith)) c.after_round-5.ensures
