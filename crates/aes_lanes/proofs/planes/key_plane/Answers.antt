use Rattle.aes_lanes.proofs.KeyPlanes.{IsBit-key_plane}
use Rattle.aes_lanes.proofs.planes.key_plane.Goals as goal

pub returns : goal.returns
returns c = λ i b p h l q e. IsBit-key_plane c.args.key c.args.bit i b p c.fits-key.0 h l e
