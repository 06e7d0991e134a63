use Rattle.std.proofs.Common.{◌≡◌, ℕ, ◌∷◌, [], ap, sym, ◌∙◌, arith, rules}
use Rattle.std.specs.Int.{w32, to_le_bytes}
use Rattle.crypto_spec.specs.Aes.{add, sub_bytes, rot_word}
use Rattle.aes_block.proofs.Words.{to_le_bytes-xor, to_le_bytes-byte, same_two}
use Rattle.aes_block.proofs.Expansion.{word_change_plain, word_change_fourth}
use Rattle.aes_block.proofs.key_schedule.word_change.Goals as goal

pub returns-then-i-ne0 : goal.returns-then-i-ne0
returns-then-i-ne0 c = sym (word_change_plain c.args.i _ (omega arith))

pub returns : goal.returns
returns c =
    let turned : to_le_bytes w32 c.from_le_bytes-turned.result ≡ sub_bytes (rot_word (to_le_bytes w32 c.args.before)) =
    search rules in
    to_le_bytes-xor c.from_le_bytes-turned.result c.from.result
    ∙ same_two add _ _ _ _ turned
    (ap (λ (n : ℕ). to_le_bytes w32 n) (search rules) ∙ to_le_bytes-byte c.round_constant.result (search rules)
    ∙ ap (λ (p : ℕ). p ∷ 0 ∷ 0 ∷ 0 ∷ []) c.round_constant.ensures)
    ∙ sym (word_change_fourth c.args.i (to_le_bytes w32 c.args.before) (omega arith))
