use Rattle.std.proofs.Common.{◌≡◌, ℕ, ◌+◌, ◌*◌, ◌∙◌, List, ap, arith}
use Rattle.sha1.specs.Sha1.{rounds, schedule}
use Rattle.run_digest.proofs.compress.Variables.after_stage.Goals as goal

moved : (hash block : List ℕ) {x : List ℕ} (t u : ℕ) → x ≡ rounds hash (schedule block 64) t → t ≡ u
    → x ≡ rounds hash (schedule block 64) u
moved hash block t u at e = at ∙ ap (rounds hash (schedule block 64)) e

pub loop-five-init : goal.loop-five-init
loop-five-init c = λ hash block has start. moved hash block _ _ start (omega arith)

pub loop-five-preserved : goal.loop-five-preserved
loop-five-preserved c = λ hash block has start.
    moved hash block (c.first_round-first.result + 5 * c.loop-five.five + 5) _
    (c.after_five-v.ensures hash block (λ t lt. has t (omega arith)) (c.loop-five.invariant hash block has start))
    (omega arith)

pub returns : goal.returns
returns c = λ hash block has start. moved hash block _ _ (c.loop-five.invariant hash block has start) (omega arith)
