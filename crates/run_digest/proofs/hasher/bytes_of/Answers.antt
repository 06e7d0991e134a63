use Rattle.std.proofs.Common.{◌≡◌, ℕ, suc, ◌+◌, ◌*◌, ◌≤◌, ◌++◌, ◌∙◌, List, length, take, slice_index, sym, ap, refl, arith, length-append, length-drop}
use Rattle.std.proofs.lemmas.List.{length-take, length-take-le, take_all}
use Rattle.std.specs.Int.{w32, to_be_bytes}
use Rattle.sha1.specs.Sha1.{digest_bytes}
use Rattle.run_digest.proofs.Blocks.{front_two}
use Rattle.run_digest.proofs.hasher.bytes_of.Goals as goal

one_word_more : (h : List ℕ) (i : ℕ) → digest_bytes h (suc i) ≡ digest_bytes h i ++ to_be_bytes w32 (slice_index h i)
unfolding digest_bytes
one_word_more h i = refl

written : (h bytes word tail : List ℕ) (i n : ℕ) → take (4 * i) bytes ≡ digest_bytes h i
    → word ≡ to_be_bytes w32 (slice_index h i) →
    4 * i ≤ length bytes → n ≡ 4 * i + 4 → take n (take (4 * i) bytes ++ (word ++ tail)) ≡ digest_bytes h (i + 1)
written h bytes word tail i n before is room e =
    let long : length word ≡ 4 = ap length is in
    let next : suc i ≡ i + 1 = omega arith in
    front_two (take (4 * i) bytes) word tail n (omega (arith, length-take-le (4 * i) bytes room))
    ∙ ap (λ (x : List ℕ). x ++ word) before
    ∙ ap (λ (x : List ℕ). digest_bytes h i ++ x) is
    ∙ sym (one_word_more h i)
    ∙ ap (digest_bytes h) next

pub loop-i-init : goal.loop-i-init
unfolding digest_bytes
loop-i-init c = (refl, refl)

pub loop-i-preserved : goal.loop-i-preserved
loop-i-preserved c =
    let four = c.copy_from_slice.ensures.after ∙ c.to_be_bytes.ensures in
    let long : length c.copy_from_slice.new.self ≡ 4 = ap length four in (
      simp (length-append, length-take, length-drop) (omega arith),
      written c.args.hash.now c.loop-i.bytes c.copy_from_slice.new.self _ c.loop-i.i _ c.loop-i.invariant.1 four
          (omega arith) (omega arith),
    )

pub returns : goal.returns
returns c =
    let last : c.loop-i.i ≡ 5 = omega arith in
    sym (take_all (4 * c.loop-i.i) c.loop-i.bytes (omega arith)) ∙ c.loop-i.invariant.1 ∙ ap (digest_bytes c.args.hash.now) last
