use Rattle.std.proofs.Common.{◌≡◌, ℕ, ◌+◌, ◌*◌, List}
use Rattle.sha1.specs.Sha1.{rounds, schedule}
use Rattle.run_digest.specs.Words.{HasWords}
use Rattle.run_digest.specs.Stage.{first_of}
use Rattle.run_digest.specs.Variables.{list_of}
use Rattle.run_digest.proofs.compress.Variables.after_stage.Given as goal

abbrev pub invariant-loop-five : goal.invariant-loop-five
invariant-loop-five l =
    (hash block : List ℕ) → HasWords block (first_of l.stage + 20) l.words
    → list_of l.fn.self ≡ rounds hash (schedule block 64) (first_of l.stage) →
    list_of l.v ≡ rounds hash (schedule block 64) (l.first + 5 * l.five)
