use Rattle.std.proofs.Common.{rules}
use Rattle.crypto_workers.proofs.Running.{claimed}
use Rattle.crypto_workers.proofs.round.claim_and_work.Goals as goal

pub returns-in-Did-Job-clause-steps : goal.returns-in-Did-Job-clause-steps
returns-in-Did-Job-clause-steps g c =
    claimed c.args.worker c.in-Did-Job.job.note _ _ _ _ c.work_and_return.result (search rules) c.in-Did-Job.ensures.step
    c.work_and_return.ensures.steps
