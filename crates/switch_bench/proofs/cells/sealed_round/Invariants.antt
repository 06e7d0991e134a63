use Rattle.std.proofs.Common.{◌≡◌, ◌+◌, ◌*◌, length}
use Rattle.switch_bench.proofs.cells.sealed_round.Given as goal

abbrev pub invariant-loop-cell : goal.invariant-loop-cell
invariant-loop-cell l =
    (length l.cells.items ≡ l._cell) × (l.layer.position ≡ l.initial.layer.position + 509 * l._cell)
