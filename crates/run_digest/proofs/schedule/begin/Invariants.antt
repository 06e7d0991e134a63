use Rattle.run_digest.specs.Words.{HasWords}
use Rattle.run_digest.proofs.schedule.begin.Given as goal

abbrev pub invariant-loop-i : goal.invariant-loop-i
invariant-loop-i l = HasWords l.block l.i l.words
