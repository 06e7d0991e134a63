use borrow.Rule.Slice.PartMut.{put_mid}
use Rattle.std.proofs.Common.{◌≡◌, ◌+◌, ◌-◌, ◌*◌, ◌≤◌, ◌∙◌, ℕ, subst, ap, arith, length, take, length-take, length-drop}
use Rattle.std.specs.Int.{w128, to_be_bytes}
use Rattle.crypto_spec.specs.Aes.{aes}
use Rattle.crypto_spec.specs.Keystream.{keystream_part}
use Rattle.aes_ctr.proofs.Pads.{length-block_put, take-block_put}
use Rattle.aes_ctr.proofs.pad.fill.Goals as goal

pub loop-k-preserved : goal.loop-k-preserved
loop-k-preserved c =
    let key = c.args.keys.now in
    let n = 8 * c.loop-group.group + c.loop-k.k in
    let at = 128 * c.loop-group.group + 16 * c.loop-k.k in
    let block = c.copy_from_slice.new.self in
    let number : c.args.first + 8 * c.loop-group.group + c.loop-k.k ≡ c.args.first + n = omega arith in
    let made : block ≡ aes key (to_be_bytes w128 (c.args.first + n)) =
    c.copy_from_slice.ensures.after ∙ c.encrypt_numbers-blocks.ensures c.loop-k.k c.loop-k-test.true
    ∙ ap (λ (m : ℕ). aes key (to_be_bytes w128 m)) number in
    let inside : at + 16 ≤ length c.loop-k.pad = omega arith in
    let sixteen : length block ≡ 16 = c.copy_from_slice.ensures.len ∙ simp (length-take, length-drop) (omega arith) in
    let next : 16 * (n + 1) ≡ 16 * (8 * c.loop-group.group + (c.loop-k.k + 1)) = omega arith in
    let P : ℕ → Type 0 = λ m. take m (put_mid at (at + 16 - at) c.loop-k.pad block) ≡ keystream_part key (16 * c.args.first) m in
    record {
      long = length-block_put c.loop-k.pad block at _ (omega arith) sixteen inside ∙ c.loop-k.invariant.long;
      made = subst P next
          (take-block_put key c.loop-k.pad block c.args.first n at _ (omega arith) sixteen inside c.loop-k.invariant.made made);
    }
