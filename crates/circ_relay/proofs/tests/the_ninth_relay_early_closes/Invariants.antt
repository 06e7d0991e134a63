use Rattle.std.proofs.Common.{◌≤◌}
use Rattle.circ_relay.proofs.tests.the_ninth_relay_early_closes.Given as goal

-- each cell is at most one more call
abbrev pub invariant-loop-number : goal.invariant-loop-number
invariant-loop-number g l =
    (l.circuit.windows.calls ≤ l._number) × (l.circuit.places.calls ≤ l._number) × (l.circuit.packager.padding.count ≤ l._number)
