-- What comes of backward bodies that come home.
use Rattle.std.specs.Prelude.{ℕ, List, map, option_map}
use Rattle.circuit_model.specs.Events.{CircuitCell}
use Rattle.relay_cell.specs.declared.head.Opened.{Opened}
use Rattle.tor_spec.specs.CellCommands.{relay_command}
use Rattle.switch_machine.specs.Calls.GiveBack.{home_way}
use Rattle.switch_machine.specs.Calls.Settling.{queued_on}
use Rattle.switch_machine.specs.Machine.{counted}
use Rattle.switch_machine.specs.State.{CircuitState, State, slot_at, with_slot}

-- A sealed body as the RELAY cell that leaves.
abbrev pub sealed_cell : Opened → CircuitCell
sealed_cell sealed = record { command = relay_command; body = sealed.body }

abbrev pub sealed_cells_of : List Opened → List CircuitCell
sealed_cells_of sealed = map sealed_cell sealed

-- A circuit on whose leg towards the client these cells wait from now on, whose backward claim came home.
abbrev pub with_sealed : List CircuitCell → CircuitState → CircuitState
with_sealed cells x = record x { legs = queued_on x.legs 0 cells; back = home_way x.back }

-- The switch with it.
abbrev pub sealed_by : State → ℕ → List CircuitCell → State
sealed_by s c cells =
    record (counted s) { circuits = with_slot s.circuits c (option_map (with_sealed cells) (slot_at s.circuits c)) }
