use Rattle.std.proofs.Common.{◌≡◌, ◌+◌, take}
use Rattle.switch_machine.specs.Calls.Settling.{more_queued}
use Rattle.switch_core.specs.Sealing.{sealed_cells_of}
use Rattle.switch_core.proofs.circuit.Circuit.seal_back.Given as goal

abbrev pub invariant-loop-number : goal.invariant-loop-number
invariant-loop-number l = record {
  leg : l.self-inside.leg.state ≡ more_queued (sealed_cells_of (take l.number l.sealed)) l.initial.self-inside.leg.state;
  room : l.self-inside.leg.spare + l.number ≡ l.initial.self-inside.leg.spare;
  forth : l.self-inside.forth ≡ l.initial.self-inside.forth;
  back : l.self-inside.back ≡ l.initial.self-inside.back;
  orders : l.self-inside.orders ≡ l.initial.self-inside.orders;
}
