use Rattle.std.proofs.Common.{ℕ, ◌<◌, List}
use Rattle.crypto_spec.specs.Aes.{expanded, state_after}
use Rattle.aes_lanes.specs.Sliced.{IsState}
use Rattle.aes_lanes.proofs.keys.LaneKeys.passed.Given as goal

abbrev pub invariant-loop-round : goal.invariant-loop-round
invariant-loop-round l =
    (b : ℕ) (s : List ℕ) → b < 8 → IsState l.fn.state b s
    → IsState l.state b (state_after (expanded l.self-inside.key 40) s l.round)
