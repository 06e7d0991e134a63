use Rattle.std.proofs.Common.{ℕ, List, refl, subst}
use Rattle.crypto_spec.specs.Aes.{shift_rows, sub_bytes}
use Rattle.aes_lanes.specs.Sliced.{IsState, masked}
use Rattle.aes_lanes.proofs.Masks.{add_masked}
use Rattle.aes_lanes.proofs.rounds.finished.Goals as goal

pub returns : goal.returns
returns c = λ b s k h long state key.
    let m = shift_rows (sub_bytes s) in
    subst (λ (x : List ℕ). IsState c.keyed.result b x) (add_masked m k refl long)
    (c.keyed.ensures b (masked m) (masked k) (c.moved.ensures b s h state) key)
