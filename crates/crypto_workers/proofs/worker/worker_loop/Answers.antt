use Rattle.crypto_workers.proofs.Running.{goes_on}
use Rattle.crypto_workers.proofs.worker.worker_loop.Goals as goal

pub rounds-preserved : goal.rounds-preserved
rounds-preserved g c = (c.round.ensures.own, goes_on c.args.worker _ _ _ c.rounds.invariant.1 c.in_default.ensures.steps)
