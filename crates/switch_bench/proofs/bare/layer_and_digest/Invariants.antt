use Rattle.std.proofs.Common.{◌≡◌, ◌*◌}
use Rattle.switch_bench.proofs.bare.layer_and_digest.Given as goal

abbrev pub invariant-loop-cell : goal.invariant-loop-cell
invariant-loop-cell g l = l.sealer.position ≡ 509 * l._cell
