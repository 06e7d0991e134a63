use Rattle.std.proofs.Common.{ℕ, List, refl, subst}
use Rattle.crypto_spec.specs.Aes.{mix_columns, shift_rows, sub_bytes}
use Rattle.aes_lanes.specs.Sliced.{IsState, masked}
use Rattle.aes_lanes.proofs.Masks.{mixed_masked, add_masked}
use Rattle.aes_lanes.proofs.States.{moved-lt}
use Rattle.aes_lanes.proofs.rounds.rounded.Goals as goal

pub returns : goal.returns
returns c = λ b s k h long state key.
    let m = shift_rows (sub_bytes s) in
    let mixed : IsState c.mixed.result b (masked (mix_columns m)) =
    subst (λ (x : List ℕ). IsState c.mixed.result b x) (mixed_masked m refl (moved-lt s state.long state.small))
    (c.mixed.ensures b (masked m) (c.moved.ensures b s h state)) in
    subst (λ (x : List ℕ). IsState c.keyed.result b x) (add_masked (mix_columns m) k refl long)
    (c.keyed.ensures b (masked (mix_columns m)) (masked k) mixed key)
