use Rattle.std.proofs.Common.{◌+◌, ap, ◌∙◌}
use Rattle.crypto_spec.specs.Aes.{add, word_change}
use Rattle.aes_block.proofs.Words.{to_le_bytes-xor, same_two}
use Rattle.aes_block.proofs.key_schedule.next_word.Goals as goal

pub returns : goal.returns
returns c =
    to_le_bytes-xor c.word_at.result c.word_change.result
    ∙ same_two add _ _ _ _ c.word_at.ensures
    (c.word_change.ensures ∙ ap (word_change (c.args.n + 4)) c.word_at-2.ensures)
