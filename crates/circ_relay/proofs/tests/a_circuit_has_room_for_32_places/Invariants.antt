use Rattle.std.proofs.Common.{◌≤◌}
use Rattle.circ_relay.proofs.tests.a_circuit_has_room_for_32_places.Given as goal

-- each cell is at most one more call
abbrev pub invariant-loop-number : goal.invariant-loop-number
invariant-loop-number g l =
    (l.circuit.windows.calls ≤ l.number) × (l.circuit.places.calls ≤ l.number) × (l.circuit.packager.padding.count ≤ l.number)
