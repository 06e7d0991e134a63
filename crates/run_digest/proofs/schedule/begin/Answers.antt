use Rattle.std.proofs.Common.{◌<◌, ◌≢◌, ◌∙◌, length, arith, get_or-set_other, get_or-set_same, below_more, sym}
use Rattle.run_digest.proofs.ScheduleWords.{word_first}
use Rattle.run_digest.proofs.schedule.begin.Goals as goal

pub loop-i-preserved : goal.loop-i-preserved
loop-i-preserved c =
    below_more _ _
    (λ t h. let ne : t ≢ c.loop-i.i = omega arith in rw get_or-set_other (c.loop-i.invariant t h))
    (let lt : c.loop-i.i < length c.loop-i.words = omega arith in
    rw get_or-set_same (c.word_of.ensures ∙ sym (word_first c.args.block.now c.loop-i.i (omega arith))))
