use Rattle.std.proofs.Common.{ℕ, ◌/◌, ◌%◌, ap, ◌∙◌}
use Rattle.std.proofs.lemmas.Nat.{and_mask}
use Rattle.crypto_spec.specs.Aes.{sub_byte}
use Rattle.aes_block.specs.MatrixColumns.{first_column, second_column, third_column, fourth_column}
use Rattle.aes_block.proofs.Words.{mixed, top_byte}
use Rattle.aes_block.proofs.state.mixed_column.Goals as goal

pub returns : goal.returns
returns c =
    mixed c.mix_row_zero.result c.mix_row_one.result c.mix_row_two.result c.mix_row_three.result c.args.key
    (sub_byte (c.args.a % 256)) (sub_byte (c.args.b / 256 % 256)) (sub_byte (c.args.c / 65536 % 256))
    (sub_byte (c.args.d / 16777216 % 256))
    (c.mix_row_zero.ensures ∙ ap (λ (n : ℕ). first_column (sub_byte n)) (and_mask c.args.a 8))
    (c.mix_row_one.ensures ∙ ap (λ (n : ℕ). second_column (sub_byte n)) (and_mask (c.args.b / 256) 8))
    (c.mix_row_two.ensures ∙ ap (λ (n : ℕ). third_column (sub_byte n)) (and_mask (c.args.c / 65536) 8))
    (c.mix_row_three.ensures ∙ ap (λ (n : ℕ). fourth_column (sub_byte n)) (top_byte c.args.d c.ranges.d.fits))
