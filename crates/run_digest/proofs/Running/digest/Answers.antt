use Rattle.crypto_spec.specs.RunningDigest.{running_digest}
use Rattle.run_digest.proofs.Running.digest.Goals as goal

pub returns : goal.returns
unfolding running_digest
returns c = λ seed bodies stands. c.finish.ensures _ (rw c.self.view_is stands)
