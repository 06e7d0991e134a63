use Rattle.std.proofs.Common.{sym}
use Rattle.tape.proofs.GiveBackCalls.{job_given_back}
use Rattle.tape.specs.Jobs.{job_at}
use Rattle.tape.proofs.job_calls.give_back_job.Goals as goal

pub returns-clause-made : goal.returns-clause-made
returns-clause-made c =
    job_given_back c.args.switch.now c.give_back.new.self c.args.claim c.in_ok-job.job c.work.result
    (λ n. job_at c.args.jobs.now n) (λ n. job_at c.take.new.self n) c.give_back.result
    c.requires.start (sym c.in_ok-job.ensures.job) c.take.ensures.others
    c.work.ensures.note c.work.ensures.start c.work.ensures.input c.give_back.ensures.whole
