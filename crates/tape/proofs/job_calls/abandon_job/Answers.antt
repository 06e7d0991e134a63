use Rattle.std.proofs.Common.{sym}
use Rattle.tape.proofs.AbandonCalls.{job_abandoned}
use Rattle.tape.specs.Jobs.{job_at}
use Rattle.tape.proofs.job_calls.abandon_job.Goals as goal

pub returns-clause-made : goal.returns-clause-made
returns-clause-made c =
    job_abandoned c.args.switch.now c.abandon.new.self c.args.claim c.in_ok-job.job
    (λ n. job_at c.args.jobs.now n) (λ n. job_at c.take.new.self n) c.abandon.result
    c.requires.start (sym c.in_ok-job.ensures.job) c.take.ensures.others c.abandon.ensures.whole
