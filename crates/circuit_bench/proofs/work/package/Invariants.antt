use Rattle.std.proofs.Common.{◌+◌, ◌*◌, ◌≤◌}
use Rattle.circuit_bench.proofs.work.package.Given as goal

-- a hundred DATA, and three SENDMEs
abbrev pub invariant-loop-hundred : goal.invariant-loop-hundred
invariant-loop-hundred l =
    (l.circuit.windows.calls ≤ 103 * l._hundred + 2) × (l.circuit.places.calls ≤ 103 * l._hundred + 2)
    × (l.circuit.packager.padding.count ≤ 103 * l._hundred + 2)
