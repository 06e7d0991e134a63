use Rattle.std.proofs.Common.{◌≡◌, ℕ, ◌+◌, ◌-◌, ◌*◌, ◌/◌, ◌%◌, ◌^◌, ◌++◌, ◌∙◌, List, length, take, drop, ap, refl, arith, length-drop}
use Rattle.std.proofs.lemmas.List.{length-take-le}
use Rattle.run_digest.proofs.Blocks.{block_text, front, front_two, long_grown, low_bits, short_grown, state}
use Rattle.run_digest.proofs.hasher.Hasher.update.Goals as goal

pub returns-then-bytes-filled : goal.returns-then-bytes-filled
returns-then-bytes-filled c = λ message stands.
    let h : List ℕ = c.args.self.now.hash in
    let block_bytes : List ℕ = c.args.self.now.block_bytes in
    let t : ℕ = c.args.self.now.total in
    let f : ℕ = c.filled-filled.result in
    let b : List ℕ = c.args.bytes.now in
    let u : ℕ = (t + length b) % 2 ^ 64 in
    let copied : c.copy_from_slice.new.self ≡ b = c.copy_from_slice.ensures.after in
    let as_long : length c.copy_from_slice.new.self ≡ length b = ap length copied in
    let low : u % 64 ≡ (t + length b) % 64 = low_bits u (t + length b) refl in
    let kept : length (take f block_bytes) ≡ f = length-take-le f block_bytes (omega arith) in
    ap (λ (r : List ℕ). state h r u)
    (front_two (take f block_bytes) c.copy_from_slice.new.self _ (u % 64) (omega arith)
    ∙ ap (λ (x : List ℕ). take f block_bytes ++ x) copied
    ∙ ap (λ (k : ℕ). take k block_bytes ++ b) c.filled-filled.ensures)
    ∙ short_grown message b h (take (t % 64) block_bytes) t u stands (omega arith) refl

pub returns-else-bytes-filled : goal.returns-else-bytes-filled
returns-else-bytes-filled c = λ message stands.
    let h : List ℕ = c.args.self.now.hash in
    let block_bytes : List ℕ = c.args.self.now.block_bytes in
    let t : ℕ = c.args.self.now.total in
    let f : ℕ = c.filled-filled.result in
    let b : List ℕ = c.args.bytes.now in
    let u : ℕ = (t + length b) % 2 ^ 64 in
    let more : List ℕ = c.split_at.result.1.now in
    let rest : List ℕ = c.take_blocks-rest.result.now in
    let written_bytes : List ℕ = c.copy_from_slice-else-bytes-filled-2.new.self in
    let copied : written_bytes ≡ rest = c.copy_from_slice-else-bytes-filled-2.ensures.after in
    let low : u % 64 ≡ (t + length b) % 64 = low_bits u (t + length b) refl in
    let left : length more ≡ length b - (64 - f) = omega (arith, c.split_at.ensures.back_len) in
    let as_long : length written_bytes ≡ length more - length more / 64 * 64 =
    ap length (copied ∙ c.take_blocks-rest.ensures.rest) ∙ length-drop (length more / 64 * 64) more in
    ap (λ (r : List ℕ). state c.take_blocks-rest.new.hash r u)
    (front written_bytes _ (u % 64) (omega arith) ∙ copied)
    ∙ long_grown message b h (take (t % 64) block_bytes) _ c.compress.new.hash more c.take_blocks-rest.new.hash rest t u stands
    (omega arith)
    refl
    (block_text block_bytes _ b f t (omega arith) (omega arith) c.filled-filled.ensures
    (c.copy_from_slice-else-bytes-filled.ensures.after ∙ c.split_at.ensures.front))
    c.compress.ensures
    (c.split_at.ensures.back ∙ ap (λ (k : ℕ). drop (64 - k) b) c.filled-filled.ensures)
    (λ n there first. c.take_blocks-rest.ensures.hash _ n there first)
    c.take_blocks-rest.ensures.rest
