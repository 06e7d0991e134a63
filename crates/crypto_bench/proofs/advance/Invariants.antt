use Rattle.std.proofs.Common.{◌≡◌, ◌*◌}
use Rattle.crypto_bench.proofs.advance.Given as goal

abbrev pub invariant-loop-place : goal.invariant-loop-place
invariant-loop-place l = (l.stream.key ≡ l.initial.stream.key) × (l.stream.position ≡ 509 * l._place)
