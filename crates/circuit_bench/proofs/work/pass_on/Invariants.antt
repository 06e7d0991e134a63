use Rattle.std.proofs.Common.{◌≡◌, ◌+◌, ◌*◌, ◌≤◌}
use Rattle.circuit_bench.proofs.work.pass_on.Given as goal

abbrev pub invariant-loop-cell : goal.invariant-loop-cell
invariant-loop-cell l =
    (l.opener.stream.position ≡ 509 * l._cell) × (l.circuit.windows.calls ≤ l._cell + 2) × (l.circuit.places.calls ≤ l._cell + 2)
    × (l.circuit.packager.padding.count ≤ l._cell + 2)
