use Rattle.std.proofs.Common.{◌≡◌, ℕ, ◌+◌, ◌++◌, List, ◌∙◌, ap, sym, arith, length, length-append, length-drop}
use Rattle.std.proofs.lemmas.List.{take_at}
use Rattle.std.specs.Int.{w32, to_le_bytes}
use Rattle.crypto_spec.specs.Aes.{add, word, word_change, expanded}
use Rattle.aes_block.proofs.Words.{same_two}
use Rattle.aes_block.proofs.Expansion.{expanded-next, length-word_put, take-word_put}
use Rattle.aes_block.proofs.key_schedule.Schedule.of.Goals as goal

pub loop-n-init : goal.loop-n-init
unfolding expanded
loop-n-init c = (simp (length-append, length-drop) (omega arith), take_at _ _ 16 (omega arith) ∙ c.copy_from_slice.ensures.after)

pub loop-n-preserved : goal.loop-n-preserved
loop-n-preserved c =
    let n = c.loop-n.n in
    let words = c.loop-n.round_keys in
    let new = c.copy_from_slice-in-loop-n.new.self in
    let written : new ≡ to_le_bytes w32 c.next_word-word.result =
    c.copy_from_slice-in-loop-n.ensures.after ∙ c.to_le_bytes.ensures in
    let four : length new ≡ 4 = ap length written in
    let after : List ℕ → List ℕ = λ ws. add (word ws n) (word_change (n + 4) (word ws (n + 3))) in
    let next : new ≡ after (expanded c.args.key.now n) = written ∙ c.next_word-word.ensures ∙ ap after c.loop-n.invariant.1 in (
      length-word_put words new n c.loop-n.invariant.0 four (omega arith),
      take-word_put words new n c.loop-n.invariant.0 four (omega arith)
          ∙ same_two (λ (x y : List ℕ). x ++ y) _ _ _ _ c.loop-n.invariant.1 next
          ∙ sym (expanded-next c.args.key.now n),
    )
