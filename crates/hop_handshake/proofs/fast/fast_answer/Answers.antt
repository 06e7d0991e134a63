use Rattle.std.proofs.Common.{refl}
use Rattle.tor_spec.proofs.Fields.{put_last}
use Rattle.hop_handshake.proofs.fast.fast_answer.Goals as goal

pub returns-clause-reply : goal.returns-clause-reply
returns-clause-reply c =
    rw (c.copy_from_slice-2.ensures.after, c.copy_from_slice.ensures.after, c.derive-hop.ensures)
    (put_last 20 20 c.args.y.now _ _ c.told-y refl)
