use Rattle.std.proofs.Common.{◌+◌, ◌≤◌}
use Rattle.circ_relay.proofs.tests.streams.send.Given as goal

-- each DATA is at most one more call
abbrev pub invariant-loop-number : goal.invariant-loop-number
invariant-loop-number l =
    (l.circuit.windows.calls ≤ l.initial.circuit.windows.calls + l.number)
    × (l.circuit.places.calls ≤ l.initial.circuit.places.calls + l.number)
    × (l.circuit.packager.padding.count ≤ l.initial.circuit.packager.padding.count + l.number)
