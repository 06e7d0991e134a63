use Rattle.std.proofs.Common.{refl}
use Rattle.sha1.specs.Sha1.{hash_after}
use Rattle.run_digest.specs.HashState.{hash_state}
use Rattle.run_digest.proofs.hasher.Hasher.new.Goals as goal

pub returns : goal.returns
unfolding hash_state hash_after
returns c = refl
