use Rattle.std.proofs.Common.{◌≡◌, ◌+◌, ◌*◌, ◌≤◌}
use Rattle.circuit_bench.proofs.work.accept_all.Given as goal

abbrev pub invariant-loop-number : goal.invariant-loop-number
invariant-loop-number l =
    (l.opener.stream.position ≡ 509 * l.number) × (l.circuit.windows.calls ≤ l.number + 2)
    × (l.circuit.places.calls ≤ l.number + 2) × (l.circuit.packager.padding.count ≤ l.number + 2)
