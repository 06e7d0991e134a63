use Rattle.std.proofs.Common.{◌≡◌, ◌+◌, ◌-◌, refl, length, arith}
use Rattle.std.specs.Int.{w16, to_be_bytes}
use Rattle.tor_spec.specs.Extend.{handshake_reply_payload}
use Rattle.tor_spec.specs.CellEncoding.{fixed_payload}
use Rattle.tor_spec.proofs.Fields.{put_in_zeros}
use Rattle.hop_handshake.proofs.payload.created2_payload.Goals as goal

pub returns : goal.returns
unfolding handshake_reply_payload
returns c =
    let size = length c.args.hdata.now in
    let laid : c.write_u16.new.buf ≡ fixed_payload (to_be_bytes w16 size) = c.write_u16.ensures in
    rw c.copy_from_slice.ensures.after
    (put_in_zeros 2 (2 + size - 2) _ (to_be_bytes w16 size) c.args.hdata.now laid refl (omega arith))
