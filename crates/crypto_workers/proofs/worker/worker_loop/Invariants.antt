use Rattle.std.proofs.Common.{◌-◌, ◌^◌, length}
use Rattle.crypto_workers.proofs.Running.{Running}
use Rattle.crypto_workers.proofs.worker.worker_loop.Given as goal

abbrev pub invariant-rounds : goal.invariant-rounds
invariant-rounds g l =
    g.P.CorePort.is_own l.port l.pass × Running l.worker (g.P.CorePort.mine l.initial.pass) (g.P.CorePort.mine l.pass)

abbrev pub decreases-rounds : goal.decreases-rounds
decreases-rounds g l = 2 ^ 62 - length (g.P.CorePort.mine l.pass)
