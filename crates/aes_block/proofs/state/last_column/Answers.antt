use Rattle.std.proofs.Common.{◌≡◌, ℕ, ◌/◌, List, ◌∷◌, [], ap, ◌∙◌, rules}
use Rattle.std.specs.Int.{w32, to_le_bytes}
use Rattle.std.proofs.lemmas.Nat.{and_mask}
use Rattle.crypto_spec.specs.Aes.{add, sub_byte}
use Rattle.aes_block.proofs.Words.{to_le_bytes-xor, same_four, top_byte}
use Rattle.aes_block.proofs.state.last_column.Goals as goal

pub returns : goal.returns
returns c =
    let read : to_le_bytes w32 c.from_le_bytes.result ≡ c.sub_byte.result ∷ c.sub_byte-2.result ∷ c.sub_byte-3.result
    ∷ c.sub_byte-4.result ∷ [] = search rules in
    to_le_bytes-xor c.from_le_bytes.result c.args.key
    ∙ ap (λ (x : List ℕ). add x (to_le_bytes w32 c.args.key)) (read
    ∙ same_four (λ (p q r s : ℕ). p ∷ q ∷ r ∷ s ∷ []) _ _ _ _ _ _ _ _
    (c.sub_byte.ensures ∙ ap sub_byte (and_mask c.args.a 8))
    (c.sub_byte-2.ensures ∙ ap sub_byte (and_mask (c.args.b / 256) 8))
    (c.sub_byte-3.ensures ∙ ap sub_byte (and_mask (c.args.c / 65536) 8))
    (c.sub_byte-4.ensures ∙ ap sub_byte (top_byte c.args.d c.ranges.d.fits)))
