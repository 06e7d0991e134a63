-- What a circuit relayed and packaged, live or torn down: the order of its bodies, and its windows.
use Rattle.std.specs.Prelude.{ℕ, ◌≡◌, ◌⊎◌, ◌≤◌, List, [], ◌∷◌, ◌++◌, Option, Some, None}
use Rattle.circuit_model.specs.Events.{CircuitCell, Event}
use Rattle.circuit_model.specs.declared.event.Event.TheVariants.{Forward, Backward}
use Rattle.circuit_model.specs.Log.{Log, collected}
use Rattle.circuit_model.specs.Rules.{Rules}
use Rattle.circuit_model.specs.Windows.{circuit_packaged, circuit_grant, stream_packaged, stream_grant}
use Rattle.circuit_model.specs.Words.{log}

abbrev pub forward_cell : Event → Option CircuitCell
forward_cell (Forward command body) = Some (record { command = command; body = body })
forward_cell event = None

-- The forward cells that came home, oldest first.
abbrev pub settled_forth : Log → List CircuitCell
settled_forth log = collected (λ entry. forward_cell entry.event) log

abbrev pub backward_body : Event → Option (List ℕ)
backward_body (Backward body) = Some body
backward_body event = None

-- The bodies that came from next hops, oldest first.
abbrev pub bodies_from_hops : Log → List (List ℕ)
bodies_from_hops log = collected (λ entry. backward_body entry.event) log

-- The forward cells that came home are the beginning of those taken.
pub record BeginsTaken (settled_cells taken_cells : List CircuitCell) : Type 0 where
  pub rest : List CircuitCell
  pub cells : settled_cells ++ rest ≡ taken_cells

-- No more DATA was packaged than was granted, for the circuit and for each of its streams (tor-spec, "Flow
-- control").
pub record KeepsWindows (rules : Rules) (relayed : Log) : Type 0 where
  pub circuit : circuit_packaged relayed ≤ circuit_grant rules relayed
  pub stream : (serial : ℕ) → stream_packaged relayed serial ≤ stream_grant relayed serial

-- The same behind each of some events, listed newest first.
abbrev pub AlwaysKeepsWindows : Rules → List Event → Type 0
AlwaysKeepsWindows rules [] = KeepsWindows rules []
AlwaysKeepsWindows rules (event ∷ events) = KeepsWindows rules (log rules (event ∷ events)) × AlwaysKeepsWindows rules events

-- The events of a circuit, with the cells that were taken in for it.
pub record IsRelayed (rules : Rules) (events : List Event) (forth : List CircuitCell) (back : List (List ℕ)) : Type 0 where
  pub forth_begins : BeginsTaken (settled_forth (log rules events)) forth
  pub back_is : bodies_from_hops (log rules events) ≡ back
  pub windows : AlwaysKeepsWindows rules events

-- One of two lists of cells begins the other.
abbrev pub AreComparable : List CircuitCell → List CircuitCell → Type 0
AreComparable xs ys =
    ((rest : List CircuitCell) × (xs ++ rest ≡ ys)) ⊎ ((rest : List CircuitCell) × (ys ++ rest ≡ xs))
