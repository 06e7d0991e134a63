use Rattle.std.proofs.Common.{◌≡◌, ◌*◌}
use Rattle.circuit_bench.proofs.bare.layers_and_digests.Given as goal

abbrev pub invariant-loop-round : goal.invariant-loop-round
invariant-loop-round l = l.stream.position ≡ 509 * l._round
