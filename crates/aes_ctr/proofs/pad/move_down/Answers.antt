use Rattle.std.proofs.Common.{◌≡◌, ◌+◌, ◌-◌, ◌*◌, ◌≤◌, ◌∙◌, ℕ, take, drop, length, ap, arith}
use Rattle.aes_ctr.proofs.Pads.{moved_group, behind_group, length-group_put}
use Rattle.aes_ctr.proofs.pad.move_down.Goals as goal

pub loop-n-preserved : goal.loop-n-preserved
loop-n-preserved c =
    let n = c.loop-n.n in
    let by = c.args.by in
    let store = c.loop-n.store in
    let group = c.copy_from_slice-in-loop-n.new.self in
    let i = c.loop-n.invariant in
    let count : 128 * n + by + 128 - (128 * n + by) ≡ 128 = omega arith in
    let taken = c.copy_from_slice-in-loop-n.ensures.after ∙ c.copy_from_slice.ensures.after
    ∙ ap (λ (m : ℕ). take m (drop (128 * n + by) store)) count in
    let long : length group ≡ 128 = ap length c.copy_from_slice-in-loop-n.ensures.after ∙ c.copy_from_slice.ensures.len in
    let fits : 128 * n + 128 + by ≤ 1152 = omega (arith, c.loop-n-test.true, c.requires.groups, c.requires.within) in
    record {
      long = length-group_put store group (128 * n) _ (omega arith) long (omega (arith, fits, i.long)) ∙ i.long;
      moved = moved_group c.args.store.now store group n by _ (omega arith) i.long fits long i.moved i.rest taken;
      rest = behind_group c.args.store.now store group n _ (omega arith) i.long (omega (arith, fits)) long i.rest;
    }
