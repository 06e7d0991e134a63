use Rattle.std.proofs.Common.{◌≡◌, ◌*◌}
use Rattle.circuit_bench.proofs.work.sealed.Given as goal

abbrev pub invariant-loop-number : goal.invariant-loop-number
invariant-loop-number l = l.stream.position ≡ 509 * l.number
