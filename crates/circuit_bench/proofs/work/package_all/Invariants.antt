use Rattle.std.proofs.Common.{◌≡◌, ◌+◌, ◌≤◌}
use Rattle.circuit_bench.proofs.work.package_all.Given as goal

abbrev pub invariant-loop-number : goal.invariant-loop-number
invariant-loop-number l =
    (l.circuit.windows.calls ≤ l.initial.circuit.windows.calls + l.number)
    × (l.circuit.places.calls ≤ l.initial.circuit.places.calls + l.number)
    × (l.circuit.packager.padding.count ≤ l.initial.circuit.packager.padding.count + l.number) × (l.data ≡ l.initial.data)
