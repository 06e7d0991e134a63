use Rattle.std.proofs.Common.{◌≡◌, ◌+◌, ◌-◌, ◌++◌, ℕ, List, length, refl, ap, ◌∙◌, arith, append_assoc}
use Rattle.std.specs.Int.{w16, to_be_bytes}
use Rattle.tor_spec.specs.CellEncoding.{fixed_payload}
use Rattle.tor_spec.specs.Extend.{handshake_reply_payload}
use Rattle.tor_spec.proofs.Fields.{put_in_zeros}
use Rattle.relay_cell.proofs.extend.create2_payload.Goals as goal

pub returns : goal.returns
unfolding handshake_reply_payload
returns c =
    let size : ℕ = length c.args.hdata.now in
    let kind : List ℕ = to_be_bytes w16 c.args.htype in
    let hlen : List ℕ = to_be_bytes w16 size in
    let laid : c.write_handshake_head.new.out ≡ fixed_payload (kind ++ hlen) = c.write_handshake_head.ensures in
    rw c.copy_from_slice.ensures.after
    (put_in_zeros 4 (4 + size - 4) _ (kind ++ hlen) c.args.hdata.now laid refl (omega arith)
    ∙ ap fixed_payload (append_assoc kind hlen c.args.hdata.now))
