-- What can happen to one circuit of a relay, and the cells on it.
use Rattle.circuit_model.specs.declared.cell.CircuitCell.{CircuitCell as DeclaredCell}
use Rattle.circuit_model.specs.declared.event.Event.{Event as DeclaredEvent}

-- A cell on a circuit without its CircID.
abbrev pub CircuitCell : Type 0
CircuitCell = DeclaredCell

-- An event. Places are named by their serial: the accepted BEGIN with number 0 of the circuit makes place 0,
-- the next one place 1, and so on.
abbrev pub Event : Type 0
Event = DeclaredEvent
