use Rattle.tape.proofs.ClaimCalls.{job_given, nothing_given}
use Rattle.tape.specs.Jobs.{job_at}
use Rattle.tape.proofs.job_calls.claim_job.Goals as goal

pub returns-in_ok-keep-in-Job-clause-ok : goal.returns-in_ok-keep-in-Job-clause-ok
returns-in_ok-keep-in-Job-clause-ok c =
    job_given c.args.switch.now c.claim.new.self c.args.worker c.claim.result c.in-Job.job c.note-note.result
    (λ n. job_at c.args.jobs.now n) (λ n. job_at c.keep.new.self n) c.requires.start c.in-Job.is c.note-note.ensures
    c.claim.ensures.whole c.claim.ensures.job c.in_ok-keep-in-Job.ensures

pub returns-in-Nothing-clause-ok : goal.returns-in-Nothing-clause-ok
returns-in-Nothing-clause-ok c =
    nothing_given c.args.switch.now c.claim.new.self c.args.worker c.claim.result (λ n. job_at c.args.jobs.now n)
    c.requires.start c.in-Nothing.is c.claim.ensures.whole
