use Rattle.std.proofs.Common.{List, ℕ}
use Rattle.crypto_spec.specs.RunningDigest.{digest_message}
use Rattle.run_digest.proofs.Messages.{digest_message_next, zeroed_in_pieces}
use Rattle.run_digest.proofs.Running.followed_by.Goals as goal

pub returns : goal.returns
returns c = λ seed bodies stands.
    let m : List ℕ = digest_message seed bodies in
    let pieces = zeroed_in_pieces m c.args.body.now 500 c.told-body in
    let grown = rw pieces at (c.update-3.ensures _ (c.update-2.ensures _ (c.update.ensures m (rw c.self.view_is stands)))) in
    rw (digest_message_next seed bodies c.args.body.now) grown
