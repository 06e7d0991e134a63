use Rattle.std.proofs.Common.{length, arith, refl, ap, ◌∙◌, ◌++◌, replicate, ◌-◌}
use Rattle.tor_spec.specs.RelayCell.{relay_body, relay_head_bytes}
use Rattle.tor_spec.proofs.RelayCells.{body_copied}
use Rattle.relay_cell.proofs.body.write_body.Goals as goal

pub returns : goal.returns
unfolding relay_body relay_head_bytes
returns c =
    rw (c.copy_from_slice.ensures.after, c.copy_from_slice-2.ensures.after)
    (body_copied 509 498 _ c.head_bytes.result c.args.payload.now (ap length c.head_bytes.ensures) c.requires refl (omega arith)
    ∙ ap (λ head. head ++ c.args.payload.now ++ replicate (498 - length c.args.payload.now) 0) c.head_bytes.ensures)
