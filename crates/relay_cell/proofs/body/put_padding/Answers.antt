use Rattle.std.proofs.Common.{◌≡◌, ◌+◌, ap, arith}
use Rattle.tor_spec.specs.RelayCell.{RelayHead, relay_head, with_padding}
use Rattle.relay_cell.proofs.Padding.{end_put}
use Rattle.relay_cell.proofs.body.put_padding.Goals as goal

pub returns : goal.returns
unfolding with_padding
returns c =
    let told : c.fields_of.result.length ≡ (relay_head c.args.body.now).length =
    ap (λ (h : RelayHead). h.length) c.fields_of.ensures in
    end_put (15 + (relay_head c.args.body.now).length) c.min-start.result 509 c.args.body.now c.args.from.now
    c.copy_from_slice.new.self
    (omega arith) (omega arith) (omega arith) c.copy_from_slice.ensures.after
