use Rattle.std.proofs.Common.{◌≤◌}
use Rattle.circ_relay.proofs.tests.each_hundredth_data_is_acknowledged.Given as goal

-- each cell is at most one more call
abbrev pub invariant-loop-number : goal.invariant-loop-number
invariant-loop-number g l =
    (l.circuit.windows.calls ≤ l.number) × (l.circuit.places.calls ≤ l.number) × (l.circuit.packager.padding.count ≤ l.number)
